-- The statements over a run.
use Prim.Native.Nat.{ℕ, zero, suc, ◌≤◌}
use native.Mathlib.Omega.{arith}
use mathlib.Core.Path.{◌≡◌, subst}
use mathlib.Core.List.{List, [], ◌∷◌, Memᴰ}
use mathlib.Core.Option.{some}
use lib.ListN.{get_elem?}
use Rattle.rules.specs.Channel.{Handed}
use Rattle.about_delivery.specs.Run.{Call}
use Rattle.about_delivery.proofs.Recording.{demand_3}
use Rattle.table.specs.Table.{Column, Row, columns_of, rows_of, numbered}
use Rattle.table.specs.Statements.{Right, AllRight}
use Rattle.table.proofs.Rights.{exactly}
use Rattle.about_table.specs.Trained.{handed_out, up_to, PassedRow, Reading, KnownAtTheClaim, NeverBefore}
use Rattle.about_table.specs.Trained.{channel_of, fates_on, SentWhole}
use Rattle.about_table.proofs.Places.{nothing-there, same-there}
use Rattle.about_table.proofs.Runs.{finds-numbered, known-numbered}
use Rattle.about_table.proofs.Sent.{whole_of}

-- a row that is right, behind some row
record RightRow (columns : List Column) (packets : List Handed) (r : Row) : Type 0 where
  before : ℕ
  right : Right columns packets before r

right-at : (columns : List Column) (packets : List Handed) (before : ℕ) (rs : List Row) (i : ℕ) (r : Row)
    → AllRight columns packets before rs
    → get_elem? rs i ≡ some r → RightRow columns packets r
right-at columns packets before [] i r a e = nothing-there e
right-at columns packets before (x ∷ rs) zero r a e =
    record { before = before; right = subst (Right columns packets before) (same-there e) a.0 }
right-at columns packets before (x ∷ rs) (suc i) r a e = right-at columns packets x.packet rs i r a.1 e

module _ (table : List ℕ) (calls : List Call) (p : PassedRow table calls) where
  its : RightRow (columns_of table) (handed_out calls) p.row
  its =
      right-at (columns_of table) (handed_out calls) 0 (rows_of table) p.place p.row
      ((exactly table (handed_out calls)).rows p.passes) p.there

  pub its_packet : Handed
  its_packet = its.right.handed

  pub its_claim : its_packet.arrival ≤ p.row.claim
  unfolding its_packet
  its_claim = its.right.claim

  pub its_number : numbered (handed_out calls) p.row.packet ≡ some its_packet
  unfolding its_packet
  its_number = its.right.exists

  pub reading_in_lem : (packets : List Handed) → numbered packets p.row.packet ≡ some its_packet → Reading table packets p.row its_packet
  unfolding its_packet
  reading_in_lem packets e =
      record {
        numbered = e;
        accepted = its.right.accepted;
        column = its.right.column;
        such = its.right.such;
        stands = its.right.value;
      }

pub known_at_the_claim : KnownAtTheClaim
known_at_the_claim s calls w table p =
    record {
      packet = its_packet table calls p;
      among = reading_in_lem table calls p (handed_out calls) (its_number table calls p);
      known = reading_in_lem table calls p (handed_out (up_to p.row.claim calls))
          (known-numbered p.row.claim calls s w p.row.packet (its_packet table calls p) (its_number table calls p)
          (its_claim table calls p));
    }

pub never_before : NeverBefore
never_before s calls w table p =
    let t = finds-numbered calls s w p.row.packet (its_packet table calls p) (its_number table calls p) in
    record {
      packet = its_packet table calls p;
      reading = reading_in_lem table calls p (handed_out calls) (its_number table calls p);
      teller = t.teller;
      claim = omega (arith, t.number, its_claim table calls p);
    }

pub sent-whole : SentWhole
sent-whole r table p =
    let h = its_packet table r.calls p in
    let t = finds-numbered r.calls r.opened.session r.runs p.row.packet h (its_number table r.calls p) in
    let v = channel_of t.teller.call in
    record {
      packet = h;
      reading = reading_in_lem table r.calls p (handed_out r.calls) (its_number table r.calls p);
      teller = t.teller;
      virtual = t.virtual;
      whole = λ few. whole_of (r.sender.streams v t.virtual).packets (fates_on r v) h
          (subst (Memᴰ h) (demand_3 r v t.virtual few).handed_out_lem t.among);
      claim = its_claim table r.calls p;
    }
