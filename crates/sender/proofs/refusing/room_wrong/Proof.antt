use Rattle.sender.proofs.Refusals.{short-octets, short_else}
use Rattle.std.proofs.Common.{rules}
use Rattle.sender.proofs.refusing.room_wrong.Statement.{statement}
use Rattle.sender.proofs.refusing.room_wrong.Tie as tie

pub room_wrong_spec : {M : Type 1} → statement M
room_wrong_spec = tie.close
    (tie.spec
    (λ c. search (short-octets, rules)) (λ c. search rules) (λ c. search rules) (λ c. search (short_else, rules)))
