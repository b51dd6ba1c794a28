-- The whole run, by how it ended.
use Rattle.std.proofs.Common.{◌≡◌, ℕ, Bool, true, false, ltb, List, ℤ, sym, refl, ◌∙◌, subst, arith, ltb-false, ltb-true}
use Rattle.window.specs.Window.{hand}
use Rattle.window.specs.Status.{done, against, broken}
use Rattle.transmit_run.specs.Ended.{status_of}
use Rattle.transmit_run.specs.Whole.{Makes, script_room, Reads, AllMade, DoneIsMade}

-- the same script and status, said otherwise
pub made-said : {octets script : List ℕ} {s n : ℤ} → octets ≡ script → n ≡ s → Makes octets s → Makes script n
made-said {n = n} e f m =
    subst (λ (x : List ℕ). Makes x n) e (record { lends = m.lends; ended = m.ended; ends = m.ends; says = f ∙ m.says })

-- ---- a run that ends with 0

done_not_broken : broken ≡ done → ⊥
done_not_broken e = let z : ◌≡◌ {A = ℕ} 0 1 = cc in omega arith

done_not_against : against ≡ done → ⊥
done_not_against e = let z : ◌≡◌ {A = ℕ} 0 1 = cc in omega arith

done_by : (faulty failed : Bool) → done ≡ status_of faulty failed → (faulty ≡ false) × (failed ≡ false)
done_by true failed e = absurd (done_not_against (sym e))
done_by false true e = absurd (done_not_broken (sym e))
done_by false false e = (refl, refl)

module _ {status : ℤ} (r : Reads status) (h : status ≡ done) where
  abbrev octets : List ℕ
  octets = hand r.script' 0 r.filled.state.have

  by_room : r.filled.state.read.failed ≡ false → (b : Bool) → ltb r.filled.state.have script_room ≡ b → AllMade r
  by_room f true e =
      let room = ltb-true r.filled.state.have script_room e in
      let m : Makes octets done = subst (λ (s : ℤ). Makes octets s) h (r.whole f room) in
      let d = done_by m.ended.faulty m.ended.written.failed m.says in
      record { read = f; room = room; made = m; sound = d.0; written = d.1 }
  by_room f false e = absurd (done_not_against (sym (r.long f (ltb-false r.filled.state.have script_room e)) ∙ h))

  by_read : (b : Bool) → r.filled.state.read.failed ≡ b → AllMade r
  by_read true e = absurd (done_not_broken (sym (r.failed e) ∙ h))
  by_read false e = by_room e (ltb r.filled.state.have script_room) refl

pub done-is-made : DoneIsMade
done-is-made = record { all = λ r h. by_read r h r.filled.state.read.failed refl }
