-- `cause` meets its contract.
use Rattle.std.proofs.Common.{◌≡◌, ℕ, List, sym, ap, ◌∙◌, rules}
use Rattle.recording.specs.declared.Reader.{Reader}
use Rattle.faults.specs.declared.Why.{Why}
use Rattle.faults.specs.Why.{why_at}
use Rattle.faults.proofs.Whys.{frames-cut, frames-end, frames-behind}
use Rattle.faults.proofs.cause.Statement.{statement}
use Rattle.faults.proofs.cause.Tie as tie

-- a reader of which it is known what it is, at the octets that are left
at-reader : {a b : Reader} (w : List ℕ) {x : Why} → x ≡ why_at b w → a ≡ b → x ≡ why_at a w
at-reader w e same = e ∙ sym (ap (λ (a : Reader). why_at a w) same)

returns : tie.Need-returns-then-n-ne0
returns c =
    let k = c in
    let w = k.args.rest.now in
    at-reader w (c.frame.ensures ∙ frames-cut w _ c.if-n-ne0.true) k.in-Frames.is

returns-2 : tie.Need-returns-then-rest-eq0
returns-2 c =
    let k = c in
    let w = k.args.rest.now in
    at-reader w (frames-end w _ c.if-n-ne0.false c.if-rest-eq0.true) k.in-Frames.is

returns-3 : tie.Need-returns-in-Settings
returns-3 c = at-reader c.args.rest.now c.settings.ensures c.in-Settings.is

returns-5 : tie.Need-returns-else-rest-eq0
returns-5 c =
    let k = c in
    let w = k.args.rest.now in
    at-reader w (frames-behind w _ c.if-n-ne0.false c.if-rest-eq0.false) k.in-Frames.is

pub cause_spec : {M : Type 1} → statement M
cause_spec =
    tie.close
    (tie.spec
    (λ c. search rules) (λ c κs. search rules) (λ c. search rules) (λ c. search rules) (λ c κs. search rules)
    returns returns-2 (λ c. search rules) returns-3 (λ c. search rules) returns-5 (λ c. search rules))
