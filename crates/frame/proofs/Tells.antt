-- What the reader tells of any octets.
use mathlib.Core.Path.{◌≡◌, refl}
use mathlib.Core.List.{List}
use mathlib.Core.Bool.{true, false≢true}
use Prim.Native.Nat.{ℕ, ◌<◌}
use native.Mathlib.Omega.{arith}
use borrow.Author.Tests.{ltb-true}
use lib.ListN.{length, take, drop}
use lib.Dec.{ltb}
use Rattle.octets.specs.Numbers.{at}
use Rattle.octets.proofs.Choices.{picks}
use Rattle.answer.specs.Told.{Told, accept, refuse}
use Rattle.answer.specs.Refusals as no
use Rattle.bits.specs.Rows.{ones}
use Rattle.bits.specs.Rows.Order.{low_first}
use Rattle.crc.specs.Check.{check_wrong}
use Rattle.frame.specs.Address.{first_wrong, address_wrong}
use Rattle.frame.specs.Octet.{OctetOf, TellsOctet}
use Rattle.frame.specs.Frame.{no_frame, length_wrong, control_wrong, protocol_wrong, version_wrong, status_wrong, pointer_wrong, status_of}
use Rattle.frame.specs.Frame.{data_length, read_information, read_header, read_frame}
use Rattle.frame.specs.declared.Frame.{Frame}

-- it accepts and says nothing else, or gives a number that is no session's, with the octet that belongs to it
pub record Tells (r : Told Frame) : Type 0 where
  pub plain : r.accepted ≡ true → r ≡ accept r.fields
  pub other : r.refusal ≡ no.session → ⊥
  pub octet : OctetOf r

-- a number of which no octet is told
refuses : (n : ℕ) → ((n ≡ no.session) → ⊥) → (n ≡ no.frame_source → ⊥) → Tells (refuse no_frame n)
refuses n other source =
    record {
      plain = λ e. absurd (false≢true e);
      other = other;
      octet = record { destination = λ e. omega arith; source = λ e. absurd (source e); other = λ a b. refl };
    }

-- an address that is wrong is so at one of its seven octets
below : (s : List ℕ) (last : ℕ) → address_wrong s last ≡ true → first_wrong s last < 7
below s last h = ltb-true _ _ h

pub read-tells : (t : ℕ) (s : List ℕ) → Tells (read_frame t s)
unfolding read_frame read_header read_information
read-tells t s =
    picks Tells (ltb 8 t) _ _ (λ e. refuses no.time_length (λ h. omega arith) (λ h. omega arith))
    (λ e. picks Tells (length_wrong t (length s)) _ _ (λ e. refuses no.frame_length (λ h. omega arith) (λ h. omega arith))
    (λ e. picks Tells (check_wrong low_first (ones 16) s) _ _ (λ e. refuses no.frame_check (λ h. omega arith) (λ h. omega arith))
    (λ e. picks Tells (address_wrong (take 7 s) 0) _ _
    (λ e. record {
      plain = λ h. absurd (false≢true h);
      other = λ h. omega arith;
      octet = record {
        destination = λ h. omega (arith, below (take 7 s) 0 e);
        source = λ h. absurd (omega arith);
        other = λ a b. absurd
            (a refl);
      };
    })
    (λ e. picks Tells (address_wrong (take 7 (drop 7 s)) 1) _ _
    (λ e. record {
      plain = λ h. absurd (false≢true h);
      other = λ h. omega arith;
      octet = record {
        destination = λ h. absurd (omega arith);
        source = λ h.
            (omega arith, omega (arith, below (take 7 (drop 7 s)) 1 e));
        other = λ a b. absurd (b refl);
      };
    })
    (λ e. picks Tells (control_wrong (at s 14)) _ _ (λ e. refuses no.frame_control (λ h. omega arith) (λ h. omega arith))
    (λ e. picks Tells (protocol_wrong (at s 15)) _ _ (λ e. refuses no.frame_protocol (λ h. omega arith) (λ h. omega arith))
    (λ e. picks Tells (version_wrong (at s 16)) _ _ (λ e. refuses no.frame_version (λ h. omega arith) (λ h. omega arith))
    (λ e. picks Tells (status_wrong t (status_of t s)) _ _ (λ e. refuses no.frame_status (λ h. omega arith) (λ h. omega arith))
    (λ e. picks Tells (pointer_wrong (at s 19) (data_length t s)) _ _ (λ e. refuses no.frame_pointer (λ h. omega arith) (λ h. omega arith))
    (λ e. record {
      plain = λ h. refl;
      other = λ h. omega arith;
      octet = record { destination = λ h. omega arith; source = λ h. absurd (omega arith); other = λ a b. refl };
    }))))))))))

pub tells-octet : TellsOctet
tells-octet t s = (read-tells t s).octet
