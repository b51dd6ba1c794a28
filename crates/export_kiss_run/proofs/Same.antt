-- With a 0xC0 on both sides of each frame the same is found.
use Rattle.std.proofs.Common.{◌≡◌, ℕ, Bool, true, false, eqb, List, [], ◌∷◌, ◌++◌, map, sym, refl, ap, ◌∙◌, append_assoc}
use Rattle.octets.proofs.Choices.{picks}
use Rattle.crc.specs.Check.{before}
use Rattle.rules.specs.Packets.{joined}
use Rattle.stretch.specs.Stretch.{Stretch}
use Rattle.kiss.specs.Stream.{mark, data_frame, onto, parted, all_but_last, inner, escaped, unescaped, stretch_of, stretches_of}
use Rattle.kiss.specs.Stream.{stretches_in}
use Rattle.kiss.specs.Statements.{NoMark}
use Rattle.kiss.proofs.Written.{parted-none, escapes_undone}
use Rattle.kiss_writer.specs.Export.{block_of}
use Rattle.export_kiss_run.specs.Written.{block_by, accepted_of, FindsTheSame}

-- octets have at least one part
record Some (l : List (List ℕ)) : Type 0 where
  p : List ℕ
  ps : List (List ℕ)
  is : l ≡ p ∷ ps

some : (s : List ℕ) → Some (parted s)
some [] = record { p = []; ps = []; is = refl }
some (x ∷ s) =
    let q = some s in
    picks Some (eqb x mark) ([] ∷ parted s) (onto x (parted s)) (λ _. record { p = []; ps = parted s; is = refl })
    (λ _. record { p = x ∷ q.p; ps = q.ps; is = ap (onto x) q.is })

front : (p s : List ℕ) → all_but_last (p ∷ parted s) ≡ p ∷ all_but_last (parted s)
front p s =
    let q = some s in
    ap (λ (l : List (List ℕ)). all_but_last (p ∷ l)) q.is ∙ ap (λ (l : List (List ℕ)). p ∷ all_but_last l) (sym q.is)

-- what is found behind a 0xC0
abbrev behind : List ℕ → List Stretch
behind s = stretches_of (all_but_last (parted s))

part-found : (p r : List ℕ) → NoMark p → behind (p ++ mark ∷ r) ≡ stretch_of p ++ behind r
part-found p r h = ap (λ (l : List (List ℕ)). stretches_of (all_but_last l)) (parted-none p r h) ∙ ap stretches_of (front p r)

nothing-found : (r : List ℕ) → behind (mark ∷ r) ≡ behind r
unfolding unescaped
nothing-found r = part-found [] r tt

plain-found : (f r : List ℕ) → behind (block_of f ++ r) ≡ stretch_of (escaped (data_frame ∷ before f)) ++ behind r
plain-found f r =
    let e = escaped (data_frame ∷ before f) in
    ap behind (append_assoc e (mark ∷ []) r) ∙ part-found e r (escapes_undone (data_frame ∷ before f)).inside

block_found : (both : Bool) (f r : List ℕ) → behind (block_by both f ++ r) ≡ stretch_of (escaped (data_frame ∷ before f)) ++ behind r
block_found false f r = plain-found f r
block_found true f r = nothing-found (block_of f ++ r) ∙ plain-found f r

blocks_found : (both : Bool) (fs : List (List ℕ)) → behind (joined (map (block_by both) fs)) ≡ behind (joined (map (block_by false) fs))
blocks_found both [] = refl
blocks_found both (f ∷ fs) =
    block_found both f (joined (map (block_by both) fs))
    ∙ ap (λ (x : List Stretch). stretch_of (escaped (data_frame ∷ before f)) ++ x) (blocks_found both fs)
    ∙ sym (block_found false f (joined (map (block_by false) fs)))

marked : (s : List ℕ) → stretches_in (mark ∷ s) ≡ behind s
unfolding stretches_in
marked s = ap (λ (l : List (List ℕ)). stretches_of (inner l)) (parted-none [] s tt)

pub finds_the_same : FindsTheSame
finds_the_same [] frames = refl
finds_the_same (t ∷ ts) frames =
    let fs = accepted_of t frames in
    marked (joined (map (block_by true) fs)) ∙ blocks_found true fs ∙ sym (marked (joined (map (block_by false) fs)))
