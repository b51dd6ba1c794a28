-- `number` meets its contract.
use Rattle.std.proofs.Common.{ℕ, ap, ◌∙◌, eq-eqb, ne_eqb}
use Rattle.octets.proofs.Choices.{picked, passed}
use Rattle.transmit_settings.specs.State.{on_channel, after_telecommands, of_time, with_common, with_master, with_count}
use Rattle.transmit_settings.specs.Setting.{up_to, set_number}
use Rattle.transmit_settings.proofs.Setting.{narrow, here, past}
use Rattle.transmit_settings.proofs.number.Goals as goal

pub returns-then-same : goal.returns-then-same
unfolding set_number
returns-then-same c =
    here _ _ c.same.ensures c.if-same.true
    c.up_to.ensures

pub returns-then-state-ne0 : goal.returns-then-state-ne0
unfolding set_number
returns-then-state-ne0 c =
    past _ _ c.same.ensures c.if-same.false
    (here _ _ c.same-2.ensures c.if-same-2.true
    (passed _ _ _ _ (ne_eqb _ _ c.if-state-ne0.true) c.stopped.ensures))

pub returns-then-same-2 : goal.returns-then-same-2
unfolding set_number
returns-then-same-2 c =
    let a = c.args in
    let s = a.state in
    past _ _ c.same.ensures c.if-same.false
    (here _ _ c.same-2.ensures c.if-same-2.true
    (c.up_to-then-same-2.ensures ∙ narrow a.n s (λ (x : ℕ). with_common s (of_time s.common x)) ∙ picked _ _ _
    (eq-eqb _ _ c.if-state-ne0.false)))

pub returns-then-same-3 : goal.returns-then-same-3
unfolding set_number
returns-then-same-3 c =
    let a = c.args in
    let s = a.state in
    past _ _ c.same.ensures c.if-same.false
    (past _ _ c.same-2.ensures c.if-same-2.false
    (here _ _ c.same-3.ensures c.if-same-3.true
    (c.up_to-then-same-3.ensures ∙ narrow a.n s (λ (x : ℕ). with_common s (on_channel s.common x)))))

pub returns-then-same-4 : goal.returns-then-same-4
unfolding set_number
returns-then-same-4 c =
    let a = c.args in
    let s = a.state in
    past _ _ c.same.ensures c.if-same.false
    (past _ _ c.same-2.ensures c.if-same-2.false
    (past _ _ c.same-3.ensures c.if-same-3.false
    (here _ _ c.same-4.ensures c.if-same-4.true
    (c.up_to-then-same-4.ensures ∙ ap (up_to 255 a.n s) c.counted.ensures ∙ narrow a.n s (with_count s)))))

pub returns-then-same-5 : goal.returns-then-same-5
unfolding set_number
returns-then-same-5 c =
    let a = c.args in
    let s = a.state in
    past _ _ c.same.ensures c.if-same.false
    (past _ _ c.same-2.ensures c.if-same-2.false
    (past _ _ c.same-3.ensures c.if-same-3.false
    (past _ _ c.same-4.ensures c.if-same-4.false
    (here _ _ c.same-5.ensures c.if-same-5.true
    (c.up_to-then-same-5.ensures ∙ narrow a.n s (with_master s))))))

pub returns-then-same-6 : goal.returns-then-same-6
unfolding set_number
returns-then-same-6 c =
    let a = c.args in
    let s = a.state in
    past _ _ c.same.ensures c.if-same.false
    (past _ _ c.same-2.ensures c.if-same-2.false
    (past _ _ c.same-3.ensures c.if-same-3.false
    (past _ _ c.same-4.ensures c.if-same-4.false
    (past _ _ c.same-5.ensures c.if-same-5.false
    (here _ _ c.same-6.ensures c.if-same-6.true
    (c.up_to-then-same-6.ensures ∙ narrow a.n s (λ (x : ℕ). with_common s (after_telecommands s.common x))))))))

pub returns : goal.returns
unfolding set_number
returns c =
    past _ _ c.same.ensures c.if-same.false
    (past _ _ c.same-2.ensures c.if-same-2.false
    (past _ _ c.same-3.ensures c.if-same-3.false
    (past _ _ c.same-4.ensures c.if-same-4.false
    (past _ _ c.same-5.ensures c.if-same-5.false
    (past _ _ c.same-6.ensures c.if-same-6.false
    c.stopped-2.ensures)))))
