use Rattle.std.proofs.Common.{◌≡◌, ℕ, ◌%◌, [], ◌∷◌, length, ap, arith}
use Rattle.export_kiss_run.proofs.Handing.{hands}
use Rattle.export_kiss_run.proofs.hand_on.Goals as goal

pub returns : goal.returns
returns c =
    let a = c.args in
    let small : length a.frame.now % 65536 ≡ length a.frame.now = omega (arith, c.requires.short) in
    hands a.t a.frame.now a.out.now c.requires (ap (λ (k : ℕ). k ∷ []) small) c.write.ensures
