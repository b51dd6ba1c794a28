-- The parts of the summary, one behind another.
use Prim.Native.Nat.{ℕ}
use mathlib.Core.Path.{◌≡◌, ap}
use mathlib.Core.List.{List}
use Rattle.octets.specs.Numbers.{at}
use Rattle.summary_count.specs.Count.{saturated}
use Rattle.summary_pen.specs.Page.{Page, Says}
use Rattle.summary_pen.specs.Words.{if_any}
use Rattle.summary_pen.specs.Form.{Form}
use Rattle.summary_text.specs.Text.{refusals, channel_texts, key_texts, apid_texts, image_texts, of_frames, of_packets, of_others, whole}
use Rattle.summary_pen.proofs.Saying.{then, reads}

module _ (f : Form) (counts : List ℕ) where
  pub frames-said : {a r l u : ℕ} {p q s t v : Page} → a ≡ at counts 2 → r ≡ at counts 3 → l ≡ at counts 4 → u ≡ at counts 5
      → Says (if_any (saturated a r) (f.frames a r)) p q → Says (refusals 1024 f.refused counts) q s
      → Says (channel_texts f counts) s t → Says (if_any a (f.over_all a l u)) t v → Says (of_frames f counts) p v
  unfolding of_frames
  frames-said {a} {r} {l} {u} e g h i b c d k =
      let all : ℕ → ℕ → List ℕ = λ a r. if_any (saturated a r) (f.frames a r) in
      let over : ℕ → ℕ → ℕ → List ℕ = λ a l u. if_any a (f.over_all a l u) in
      let x : all a r ≡ all (at counts 2) (at counts 3) = simp (e, g) in
      let y : over a l u ≡ over (at counts 2) (at counts 4) (at counts 5) = simp (e, h, i) in
      then (reads x b) (then c (then d (reads y k)))

  pub packets-said : (keys many : List ℕ) {m n o : ℕ} {p q s t v : Page} → m ≡ at counts 6 → n ≡ at counts 7 → o ≡ at counts 8
      → Says (if_any (saturated m n) (f.packets m n)) p q → Says (key_texts f keys many) q s → Says (if_any o (f.others o)) s t
      → Says (refusals 66560 f.away counts) t v → Says (of_packets f counts keys many) p v
  unfolding of_packets
  packets-said keys many {m} {n} {o} e g h b c d k =
      let all : ℕ → ℕ → List ℕ = λ m n. if_any (saturated m n) (f.packets m n) in
      let x : all m n ≡ all (at counts 6) (at counts 7) = simp (e, g) in
      then (reads x b) (then c (then (reads (ap (λ (o : ℕ). if_any o (f.others o)) h) d) k))

  pub others-said : {m n : ℕ} {p q s t v : Page} → m ≡ at counts 0 → n ≡ at counts 1
      → Says (apid_texts f counts) p q → Says (image_texts f counts) q s → Says (if_any m (f.other_lines m)) s t
      → Says (if_any n (f.bad n)) t v → Says (of_others f counts) p v
  unfolding of_others
  others-said e g a b c d =
      then a
      (then b
      (then (reads (ap (λ (m : ℕ). if_any m (f.other_lines m)) e) c) (reads (ap (λ (n : ℕ). if_any n (f.bad n)) g) d)))

  pub whole-said : (keys many : List ℕ) {p q r s t : Page} → Says f.begins p q → Says (of_frames f counts) q r
      → Says (of_packets f counts keys many) r s → Says (of_others f counts) s t → Says (whole f counts keys many) p t
  unfolding whole
  whole-said keys many a b c d = then a (then b (then c d))
