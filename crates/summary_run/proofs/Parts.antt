-- What is written part after part is the text.
use Prim.Native.Nat.{ℕ, zero, suc, ◌+◌, ◌-◌, ◌≤◌, ◌<◌}
use mathlib.Core.Path.{◌≡◌, refl, sym, ap, ◌∙◌, subst}
use mathlib.Core.List.{List, [], ◌∷◌, ◌++◌}
use mathlib.Core.Bool.{Bool, true, false, not, ◌||◌, true≢false}
use native.Mathlib.Omega.{arith}
use native.Mathlib.Nat.{sub-zero}
use lib.Dec.{eqb, ltb}
use borrow.Author.Tests.{ltb-true, eq-eqb}
use lib.ListN.{length, take, drop, take-append-drop}
use lib.Seq.{take_all, take-append_seam, take-add}
use Rattle.octets.specs.Pick.{pick}
use Rattle.window.specs.Turns.{Turns, none, more, Made, most}
use Rattle.window.specs.Window.{hand, unwritten}
use Rattle.window.specs.declared.Written.{Written}
use Rattle.window.proofs.Looping.{one_more, stopped, all_made}
use Rattle.window.proofs.Hands.{take_own}
use Rattle.summary_count.specs.Count.{largest, saturated, Tally}
use Rattle.summary_pen.specs.Page.{Shows}
use Rattle.summary_run.specs.Shown.{text_of, ShowedAs, Showed, first, going_on, Shown, ShowsAll}
use Rattle.summary_run.specs.declared.showing.Page.{Page}

-- ---- a part

-- what was put at the start of an output is the part that is shown
pub put_front : (text : List ℕ) (skip : ℕ) {out out' : List ℕ} {n : ℕ} → Shows text skip out out' n → length out' ≡ length out
    → hand out' 0 n ≡ take (length out') (drop skip text)
put_front text skip {out} {out'} {n} s e =
    let part : List ℕ = take (length out) (drop skip text) in
    ap (λ (k : ℕ). take k out') (sub-zero n ∙ s.many)
    ∙ ap (λ (x : List ℕ). take (length part) x) s.leaves
    ∙ take-append_seam part (drop (length part) out)
    ∙ ap (λ (k : ℕ). take k (drop skip text)) (sym e)

-- by the form that was asked for
pub by_form : (t : Tally) {form asked : Bool} {skip : ℕ} {out out' : List ℕ} {n : ℕ} → asked ≡ form → Shows (text_of form t) skip out out' n
    → Shows (text_of asked t) skip out out' n
by_form t {skip = skip} {out} {out'} {n} e s = subst (λ (b : Bool). Shows (text_of b t) skip out out' n) (sym e) s

-- a part was put and written
pub showed : (text : List ℕ) (p : Page) {out out' : List ℕ} {n skip : ℕ} {o : Written} {failed : Bool} → Shows text p.skip out out' n
    → length out' ≡ length out → o.size ≡ length (take (length out') (drop p.skip text)) → skip ≡ saturated p.skip n
    → failed ≡ o.failed
    → Showed text (length out) p (record {
      skip = skip;
      written = o;
      whole = ltb n (length out');
      going = not (failed || (ltb n (length out') || eqb skip 18446744073709551615));
    })
showed text p {out} {out'} {n} {skip} s same eo es ef = record {
  says = refl;
  size = eo ∙ ap (λ (k : ℕ). length (take k (drop p.skip text))) same;
  skip = es ∙ ap (saturated p.skip) s.many;
  whole = ap (λ (k : ℕ). ltb k (length out')) s.many ∙ ap (λ (k : ℕ). ltb (length (take (length out) (drop p.skip text))) k) same;
  going = ap (λ (b : Bool). not (b || (ltb n (length out') || eqb skip 18446744073709551615))) ef;
}

-- ---- the loop

-- a part from one page to the next, where the room is the same as at first
pub next-part : {text : List ℕ} {room room₀ n : ℕ} {p₀ p r : Page} → room ≡ room₀
    → Made going_on (ShowedAs text room₀) p₀ n p → p.going ≡ true → Showed text room p r
    → Made going_on (ShowedAs text room₀) p₀ (n + 1) r
next-part {text} {p = p} {r = r} same m g x = one_more m g (subst (λ (k : ℕ). Showed text k p r) same x)

module _ {text : List ℕ} {room n : ℕ} {w : Written} {p : Page} (e : w ≡ unwritten)
    (m : Made going_on (ShowedAs text room) (record { skip = 0; written = w; whole = false; going = true }) n p) where
  begun : Made going_on (ShowedAs text room) first n p
  begun =
      subst (λ (x : Written). Made going_on (ShowedAs text room) (record { skip = 0; written = x; whole = false; going = true }) n p) e m

  pub shown : p.going ≡ false → Shown text room (record { page = p; made = n })
  shown h = record { loops = stopped begun h }

  pub shown-most : n ≡ most → Shown text room (record { page = p; made = n })
  shown-most h = record { loops = all_made begun h }

-- ---- the whole

-- while it goes on, what was written is as much of the text as is skipped then
record Sofar (text written : List ℕ) (p : Page) : Type 0 where
  front : p.going ≡ true → written ≡ take p.skip text
  short : written ≡ take (length written) text
  ends : p.whole ≡ true → written ≡ text

both_false : (a b c : Bool) → not (a || (b || c)) ≡ true → c ≡ false
both_false false false false h = refl
both_false false false true h = absurd (true≢false (sym h))
both_false false true c h = absurd (true≢false (sym h))
both_false true b c h = absurd (true≢false (sym h))

-- a part that is shorter than the room is all of it
shorter : (n : ℕ) (l : List ℕ) → length (take n l) < n → length l ≤ n
shorter zero l h = absurd (omega arith)
shorter (suc n) [] h = omega arith
shorter (suc n) (x ∷ l) h =
    let k : length l ≤ n = shorter n l (omega arith) in
    omega arith

-- a sum that is not the largest number is exact
exact : (x n s : ℕ) → s ≡ saturated x n → eqb s largest ≡ false → s ≡ x + n
unfolding saturated pick
exact x n s e h = by (ltb (largest - x) n) refl
  where
    by : (b : Bool) → ltb (largest - x) n ≡ b → s ≡ x + n
    by true t = absurd (true≢false (sym (eq-eqb s largest (e ∙ ap (λ (b : Bool). pick b largest (x + n)) t)) ∙ h))
    by false t = e ∙ ap (λ (b : Bool). pick b largest (x + n)) t

sofar : {text : List ℕ} {room n : ℕ} {w : List ℕ} {p : Page} → Turns going_on (ShowedAs text room) first n w p → Sofar text w p
sofar none = record { front = λ _. refl; short = refl; ends = λ e. absurd (true≢false (sym e)) }
sofar {text} {room} (more {text = w} {said = said} {r = r} {t = t} before on x) =
    let h = sofar before in
    let k : ℕ = r.skip in
    let f : w ≡ take k text = h.front on in
    let m : ℕ = length said in
    let own : said ≡ take m (drop k text) =
    x.says ∙ sym (take_own room (drop k text)) ∙ ap (λ (j : ℕ). take j (drop k text)) (ap length (sym x.says)) in
    let all : w ++ said ≡ take (k + m) text =
    ap (λ (y : List ℕ). y ++ said) f ∙ ap (λ (y : List ℕ). take k text ++ y) own ∙ sym (take-add k m text) in
    record {
      front = λ e. all
          ∙ ap (λ (j : ℕ). take j text) (sym
          (exact k m t.skip x.skip (both_false t.written.failed t.whole _ (sym x.going ∙ e))));
      short = all ∙ sym (take_own (k + m) text) ∙ ap (λ (y : List ℕ). take (length y) text) (sym all);
      ends = λ e.
          let l : m < room = ltb-true m room (sym x.whole ∙ e) in
          let rest : said ≡ drop k text = x.says ∙ take_all room (drop k text)
          (shorter room (drop k text) (omega (arith, ap length x.says))) in
          ap (λ (y : List ℕ). y ++ said) f ∙ ap (λ (y : List ℕ). take k text ++ y) rest ∙ take-append-drop k text;
    }

pub shows-all : ShowsAll
shows-all = record {
  first = λ s. (sofar s.loops.made.turns).short;
  all = λ s e. (sofar s.loops.made.turns).ends e;
}
