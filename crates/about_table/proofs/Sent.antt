-- What is handed out was sent, whole.
use Prim.Native.Nat.{ℕ, ◌+◌, ◌-◌, ◌≤◌}
use mathlib.Core.Path.{◌≡◌, refl, sym, ap, ◌∙◌, subst}
use mathlib.Core.Logic.{⊎_elim}
use mathlib.Core.Bool.{Bool, true, false, cond}
use mathlib.Core.List.{List, [], ◌∷◌, ◌++◌, append-nil, append_assoc}
use mathlib.Core.List.Memᴰ
use mathlib.Core.List.{Memᴰ}
use lib.ListN.{length, drop, get_or, length-append}
use lib.Seq.{drop-drop}
use lib.Dec.{leb}
use borrow.Author.Tests.{leb-true}
use Rattle.rules.specs.Channel.{Handed}
use Rattle.rules.specs.Packets.{joined}
use Rattle.sender.specs.Sender.{when}
use Rattle.about_delivery.specs.Link.{Fate}
use Rattle.about_delivery.specs.Expected.{owners, arrived, arrival_at, expected_from, expected}
use Rattle.about_table.specs.Trained.{carriers, Whole}

joined-last : (ps : List (List ℕ)) (p : List ℕ) → joined (ps ++ p ∷ []) ≡ joined ps ++ p
joined-last [] p = append-nil p
joined-last (q ∷ ps) p = ap (λ (x : List ℕ). q ++ x) (joined-last ps p) ∙ sym (append_assoc q (joined ps) p)

-- what is expected was sent, whole
module _ (all : List (List ℕ)) (ss : List Fate) where
  one_of : (b : Bool) (x h : Handed) → Memᴰ h (when b x) → (b ≡ true) × (h ≡ x)
  one_of true x h m = (refl, Memᴰ.eq_of_singleton m)
  one_of false x h m = absurd (Memᴰ.not-nil m)

  whole_from : (before ps : List (List ℕ)) (owns : List ℕ) → all ≡ before ++ ps → owns ≡ carriers before ss → (h : Handed)
      → Memᴰ h (expected_from ss ps owns) → Whole all ss h
  whole_from before [] owns e d h m = absurd (Memᴰ.not-nil m)
  whole_from before (p ∷ ps) owns e d h m =
      by (leb (length p) (length owns)) refl m
      (λ k. whole_from (before ++ p ∷ []) ps (drop (length p) owns) (e ∙ sym (append_assoc before (p ∷ []) ps)) rest h k)
    where
      rest : drop (length p) owns ≡ carriers (before ++ p ∷ []) ss
      rest =
          let size : length (joined before) + length p ≡ length (joined (before ++ p ∷ [])) =
          sym (length-append (joined before) p) ∙ ap length (sym (joined-last before p)) in
          ap (drop (length p)) d ∙ drop-drop (length p) (length (joined before)) (owners 0 ss) ∙ ap (λ (n : ℕ). drop n (owners 0 ss)) size

      here : (length p ≤ length owns) → arrived ss (get_or owns 0 0) (get_or owns (length p - 1) 0) ≡ true
          → h ≡ record { first = arrival_at ss owns 0; arrival = arrival_at ss owns (length p - 1); packet = p } → Whole all ss h
      here l a x =
          subst (Whole all ss) (sym x)
          (record {
            before = before;
            behind = ps;
            sent = e;
            carried = subst (λ (o : List ℕ). length p ≤ length o) d l;
            arrived = subst (λ (o : List ℕ). arrived ss (get_or o 0 0) (get_or o (length p - 1) 0) ≡ true) d a;
            first = ap (λ (o : List ℕ). arrival_at ss o 0) d;
            last = ap (λ (o : List ℕ). arrival_at ss o (length p - 1)) d;
          })

      by : (b : Bool) → leb (length p) (length owns) ≡ b
          → Memᴰ h (cond b (when (arrived ss (get_or owns 0 0) (get_or owns (length p - 1) 0))
          (record { first = arrival_at ss owns 0; arrival = arrival_at ss owns (length p - 1); packet = p })
          ++ expected_from ss ps (drop (length p) owns)) [])
          → (Memᴰ h (expected_from ss ps (drop (length p) owns)) → Whole all ss h) → Whole all ss h
      by true l n next =
          ⊎_elim
          (λ k. let x = one_of (arrived ss (get_or owns 0 0) (get_or owns (length p - 1) 0)) _ h k in here (leb-true _ _ l) x.0 x.1)
          next
          (Memᴰ.append_cases (when (arrived ss (get_or owns 0 0) (get_or owns (length p - 1) 0))
          (record { first = arrival_at ss owns 0; arrival = arrival_at ss owns (length p - 1); packet = p })) n)
      by false l n next = absurd (Memᴰ.not-nil n)

pub whole_of : (packets : List (List ℕ)) (ss : List Fate) (h : Handed) → Memᴰ h (expected packets ss) → Whole packets ss h
whole_of packets ss h m = whole_from packets ss [] packets (owners 0 ss) refl refl h m
