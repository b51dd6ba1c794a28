use Rattle.std.proofs.Common.{◌≡◌, ◌+◌, ◌-◌, length, arith, drop-drop, ap, sym, append_assoc, ◌∙◌, take, ◌++◌}
use Rattle.octets.proofs.Placing.{put-none, put-fits}
use Rattle.octets.proofs.put.Goals as goal

pub returns-then-out-n : goal.returns-then-out-n
returns-then-out-n c = put-none _ _ _ (omega arith)

pub returns-then-out-n-2 : goal.returns-then-out-n-2
returns-then-out-n-2 c = put-none _ _ _ (omega arith)

pub returns : goal.returns
returns c =
    let a = c.args in
    let n : a.at + length a.src.now - a.at ≡ length a.src.now = omega arith in
    rw (n, c.copy_from_slice.ensures.after)
    (ap (λ l. take a.at a.out.now ++ (a.src.now ++ l)) (drop-drop (length a.src.now) a.at a.out.now)
    ∙ sym (append_assoc (take a.at a.out.now) a.src.now _) ∙ put-fits a.out.now a.at a.src.now (omega arith))
