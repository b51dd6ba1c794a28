-- What is known by what a call tells.
use Prim.Native.Nat.{ℕ, ◌≤◌}
use mathlib.Core.Path.{◌≡◌, refl, sym, ap, ◌∙◌}
use mathlib.Core.List.{List}
use native.Mathlib.Omega.{arith}
use lib.ListN.{length}
use Rattle.source.specs.Scan.{scanned, kept_by, Scans, Waits}
use Rattle.source.proofs.Scanning.{scans_find}
use Rattle.source.specs.declared.Source.{Source}
use Rattle.source.specs.declared.Taken.{Taken}
use Rattle.source.specs.declared.Taken.TheVariants as taken
use Rattle.session.specs.Lent.{Lent}
use Rattle.session.specs.declared.Session.{Session}
use Rattle.receiver.specs.Receive.{missing, told_of, heard, received, Receives}
use Rattle.receiver.specs.declared.Receiver.{Receiver}
use Rattle.receiver.specs.declared.Received.{Received}
use Rattle.receiver.specs.declared.Event.TheVariants as event
use Rattle.receiver.proofs.Receiving.{known}

-- Only octets that are missing are told so.
was_missing : (s : Session) (kept w : List ℕ) (l : Lent) (t : Taken) (n : ℕ) → (heard s kept w l t).tells ≡ missing n → t ≡ taken.Missing n
was_missing s kept w l (taken.Missing m) n h = let e : m ≡ n = cc in ap taken.Missing e
was_missing s kept w l taken.Bad n h = let z : ◌≡◌ {A = ℕ} 0 1 = cc in absurd (omega arith)
was_missing s kept w l taken.Over n h = let z : ◌≡◌ {A = ℕ} 0 1 = cc in absurd (omega arith)
was_missing s kept w l (taken.Opened t) n h = let z : ◌≡◌ {A = ℕ} 0 1 = cc in absurd (omega arith)
was_missing s kept w l taken.Nothing n h = let z : ◌≡◌ {A = ℕ} 0 1 = cc in absurd (omega arith)
was_missing s kept w l (taken.Here from to) n h = let z : ◌≡◌ {A = ℕ} 0 1 = cc in absurd (omega arith)
was_missing s kept w l (taken.Kept m) n h = let z : ◌≡◌ {A = ℕ} 0 1 = cc in absurd (omega arith)
was_missing s kept w l (taken.Refused m) n h = let z : ◌≡◌ {A = ℕ} 0 1 = cc in absurd (omega arith)

-- Nothing is used, the source stays, and nothing can be found yet.
pub record Missed (a : Receiver) (kept w : List ℕ) (r : Received) (n : ℕ) : Type 0 where
  pub used : r.used ≡ 0
  pub source : r.receiver.source ≡ a.source
  pub waits : Waits a.source kept w n

scans : (s : Source) (kept w : List ℕ) → Scans s kept w (scanned s kept w) (kept_by s kept w)
scans s kept w = record { answers = refl; keeps = refl }

module _ (a : Receiver) (kept w : List ℕ) {l : Lent} {r : Received} {kept' : List ℕ} {l' : Lent} (g : Receives a kept w l r kept' l') where
  pub used-inside : r.used ≤ length w
  unfolding received
  used-inside = omega (arith, g.used, (scans_find.finds (scans a.source kept w)).inside)

  pub missed : {n : ℕ} → r.event ≡ event.Missing n → Missed a kept w r n
  unfolding received
  missed {n} e =
      let t : (scanned a.source kept w).taken ≡ taken.Missing n = was_missing a.session (kept_by a.source kept w) w l
      (scanned a.source kept w).taken n (sym g.tells ∙ ap told_of e) in
      let k = known (scans a.source kept w) t in
      record { used = g.used ∙ k.0.2; source = ap (λ (b : Receiver). b.source) g.receiver ∙ k.0.0; waits = k.1 }
