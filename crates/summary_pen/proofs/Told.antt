-- The lines of which the summary is made, from their parts.
use Prim.Native.Nat.{ℕ, ◌/◌, ◌%◌}
use mathlib.Core.Path.{◌≡◌, ap}
use mathlib.Core.List.{List}
use Rattle.summary_count.specs.Count.{saturated}
use Rattle.summary_pen.specs.Page.{Page, Says}
use Rattle.summary_pen.specs.Words.{codes, told, ended, row, pair, keyed}
use Rattle.summary_pen.specs.Lines.{thousandths, share, shared, both, losses}
use Rattle.summary_pen.proofs.Saying.{then, reads}

pub row-said : (words : List ℕ) (n : ℕ) {p q r : Page} → Says (told words n) p q → Says ended q r → Says (row words n) p r
unfolding row
row-said words n a b = then a b

pub pair-said : (words others : List ℕ) (i n : ℕ) {p q r : Page} → Says (told words i) p q → Says (row others n) q r
    → Says (pair words others i n) p r
unfolding pair
pair-said words others i n a b = then a b

pub keyed-said : (apid service subtype many : List ℕ) (key n : ℕ) {p q r s t : Page} → Says (told apid (key / 65536)) p q
    → Says (told service (key / 256 % 256)) q r → Says (told subtype (key % 256)) r s → Says (row many n) s t
    → Says (keyed apid service subtype many key n) p t
unfolding keyed
keyed-said apid service subtype many key n a b c d = then a (then b (then c d))

pub share-said : (n rest : ℕ) {t : ℕ} {p q r s : Page} → t ≡ thousandths n (saturated n rest) → Says (told (codes " (") (t / 10)) p q
    → Says (told (codes ".") (t % 10)) q r → Says (codes " %)") r s → Says (share n rest) p s
unfolding share
share-said n rest e a b c =
    then (reads (ap (λ (x : ℕ). told (codes " (") (x / 10)) e) a) (then (reads (ap (λ (x : ℕ). told (codes ".") (x % 10)) e) b) c)

pub shared-said : (words : List ℕ) (n rest : ℕ) {p q r : Page} → Says (told words n) p q → Says (share n rest) q r
    → Says (shared words n rest) p r
unfolding shared
shared-said words n rest a b = then a b

pub both-said : (words one other : List ℕ) (m n : ℕ) {all : ℕ} {p q r s t : Page} → all ≡ saturated m n → Says (told words all) p q
    → Says (shared one m n) q r → Says (shared other n m) r s → Says ended s t → Says (both words one other m n) p t
unfolding both
both-said words one other m n e a b c d = then (reads (ap (told words) e) a) (then b (then c d))

pub losses-said : (words : List ℕ) (received lost unknown : ℕ) {p q r : Page} → Says (shared words lost received) p q
    → Says (row (codes ", unknown ") unknown) q r → Says (losses words received lost unknown) p r
unfolding losses
losses-said words received lost unknown a b = then a b
