-- An octet by its halves, the high one first: it enters the register's high bits, and two turns of four zeros follow.
use mathlib.Core.Path.{refl, sym, ap, ◌∙◌}
use mathlib.Core.Bool.{Bool}
use mathlib.Core.List.{List, ◌++◌}
use Prim.Native.Nat.{ℕ, ◌+◌, ◌*◌, ◌/◌, ◌%◌, ◌^◌, ◌<◌}
use native.Mathlib.Nat.{mod-lt}
use native.Mathlib.Omega.{arith}
use lib.ListN.{length, get_or}
use lib.Bits.{bit_xor, xor_lt}
use lib.Dec.{lit<}
use Rattle.bits.specs.Rows.{plus, zeros, bits_of}
use Rattle.bits.specs.Rows.Order.{high_first}
use Rattle.bits.proofs.Numbers.{length-bits, bits_xor, bits-cut}
use Rattle.crc.proofs.Register.{run-append, entered}
use Rattle.crc.proofs.Turn.{Holds, bits-rest}
use Rattle.crc.proofs.Passed.{Passed, passed-more}
use Rattle.crc.proofs.Table.{Table, turned}

-- i octets have passed, by a table that is right: the number s has the register's bits
pub record Halves (table octets : List ℕ) (i s : ℕ) : Type 0 where
  pub words : Table high_first 4 table
  pub passed : Passed high_first octets i s

-- s with the octet x in its high bits, and s after a turn of four zeros
abbrev pub entered_by : ℕ → ℕ → ℕ
entered_by s x = bit_xor s (x * 2 ^ 8 % 2 ^ 16)

abbrev pub turned_by : List ℕ → ℕ → ℕ
turned_by table s = bit_xor (get_or table (s / 2 ^ 12) 0) (s * 2 ^ 4 % 2 ^ 16)

held-entered : (s x : ℕ) → s < 2 ^ 16 → x < 2 ^ 8 → Holds high_first (entered_by s x)
    (plus (bits_of high_first 16 s) (bits_of high_first 8 x ++ zeros 8))
held-entered s x h l =
    record {
      fits = xor_lt 16 s (x * 2 ^ 8 % 2 ^ 16) h (mod-lt (x * 2 ^ 8) (lit< tt));
      bits =
          bits_xor high_first 16 s (x * 2 ^ 8 % 2 ^ 16)
          ∙ ap (plus (bits_of high_first 16 s))
          (bits-rest high_first 8 8 x (omega (arith, l)) ∙ ap (λ (b : List Bool). b ++ zeros 8) (bits-cut high_first 8 x));
    }

-- one octet more
pub halves_more : {table octets : List ℕ} {i s : ℕ} → Halves table octets i s → i < length octets → get_or octets i 0 < 256
    → Halves table octets (i + 1) (turned_by table (turned_by table (entered_by s (get_or octets i 0))))
halves_more {table} {octets} {i} {s} p h l =
    let x : ℕ = get_or octets i 0 in
    let q = turned 12 4 refl p.words (turned 12 4 refl p.words (held-entered s x p.passed.holds.fits l)) in
    record {
      words = p.words;
      passed =
          passed-more p.passed h
          (record {
            fits = q.fits;
            bits =
                q.bits ∙ sym (run-append (plus (bits_of high_first 16 s) (bits_of high_first 8 x ++ zeros 8)) (zeros 4) (zeros 4))
                ∙ sym (entered (bits_of high_first 16 s) (bits_of high_first 8 x) 8 (length-bits high_first 16 s) refl);
          });
    }
