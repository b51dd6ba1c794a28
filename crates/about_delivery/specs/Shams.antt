-- 11. Shams: second definitions of what comes of a channel's frames, each with a recording on which demand 3's conclusion fails of it.
use Rattle.std.specs.Prelude.{ℕ, zero, suc, ◌<◌, ◌≡◌, List, [], ◌∷◌, map, cond, ◌||◌, length, take, drop, ltb, eqb, Some, None}
use Rattle.std.proofs.Math.Option.{Option, none, some}
use Rattle.octets.specs.Numbers.{at, word}
use Rattle.counts.specs.Loss.{Loss}
use Rattle.counts.specs.Lost.{lost_since, number}
use Rattle.frame.specs.Limits.{raw_data}
use Rattle.rules.specs.Channel.{held_of, Handed, given, Channel, fresh, answer, step, follow, after_loss}
use Rattle.rules.specs.Packets.{AllGood, firsts}
use Rattle.sender.specs.Stream.{Choice, next, frames_by}
use Rattle.about_delivery.specs.Link.{Fate}
use Rattle.about_delivery.specs.Expected.{piece, expected, expected_losses, FewLost}
use Rattle.about_delivery.specs.Delivered.{Report, handed, losses, Delivered}
use Rattle.about_delivery.specs.Channels.{Offer, offered, run_by, run, report}
use Rattle.about_delivery.specs.Corners.{sent_by, two, gap, split, raws}

-- A recording within demand 3: packets of 16 to 251 octets, cut by some choices from some count on, and at most 255 frames lost between
-- two arrivals.
pub record Within (packets : List (List ℕ)) (fates : List Fate) : Type 0 where
  pub good : AllGood packets
  pub choices : List Choice
  pub first : ℕ
  pub small : first < 256
  pub sent : map piece fates ≡ frames_by packets 0 first choices
  pub gaps : FewLost fates

-- On it the conclusion fails.
pub record Fails (sham : List Offer → List Report) (packets : List (List ℕ)) (fates : List Fate) : Type 0 where
  pub within : Within packets fates
  pub fails : Delivered packets fates (sham (offered fates)) → ⊥

-- Each packet in a frame of its own, nothing lost; and the second packet in two frames.
abbrev pub plain : List Fate
plain = sent_by 7 two (next 16 ∷ next 30 ∷ []) (1 ∷ 2 ∷ [])

abbrev pub parted : List Fate
parted = sent_by 7 two (next 20 ∷ next 26 ∷ []) (1 ∷ 2 ∷ [])

-- It refuses everything.
abbrev pub refuses_all : List Offer → List Report
refuses_all os = []

-- It joins packets at the first frame and afterwards only moves the arrival number.
abbrev pub joins_at_first : List Offer → List Report
joins_at_first [] = []
joins_at_first (o ∷ os) =
    report o.arrival (step o.arrival fresh o.frame) ∷ map
    (λ (p : Offer). record { arrival = p.arrival; lost = Some 0; headers = 0; packets = [] }) os

-- It invents losses: after the first frame, one more than there was, and then goes by rule 1.
abbrev pub invented : Option ℕ → ℕ → Loss
invented none count = None
invented (some last) count = Some (suc (number (lost_since (some last) count)))

abbrev pub invents_losses : List Offer → List Report
invents_losses os =
    run_by (λ a c f. answer f.count (invented c.last f.count)
    (after_loss a (number (invented c.last f.count)) c.in_step c.held f.pointer f.octets)) fresh os

-- It tells the rules' losses otherwise.
abbrev pub retelling : (Loss → Loss) → List Offer → List Report
retelling tell os =
    map (λ (r : Report). record { arrival = r.arrival; lost = tell r.lost; headers = r.headers; packets = r.packets }) (run fresh os)

-- It withholds losses: none, wherever there is a last count.
abbrev pub withheld : Loss → Loss
withheld None = None
withheld (Some n) = Some 0

abbrev pub withholds_losses : List Offer → List Report
withholds_losses os = retelling withheld os

-- It calls every loss unknown.
abbrev pub calls_unknown : List Offer → List Report
calls_unknown os = retelling (λ l. None) os

-- It keeps what is held across a lost frame.
abbrev pub holds_across : List Offer → List Report
holds_across os =
    run_by (λ a c f. answer f.count (lost_since c.last f.count) (follow a c.in_step c.held f.pointer f.octets)) fresh os

-- It reads C as the length, and cuts each frame's packets by it.
abbrev pub cut_by_c : ℕ → List ℕ → List (List ℕ)
cut_by_c zero s = []
cut_by_c (suc n) s =
    cond (ltb (length s) 6 || ltb (length s) (word (at s 4) (at s 5))) []
    (take (word (at s 4) (at s 5)) s ∷ cut_by_c n (drop (word (at s 4) (at s 5)) s))

abbrev pub reads_c : List Offer → List Report
reads_c os =
    map (λ (o : Offer). record {
      arrival = o.arrival;
      lost = Some 0;
      headers = 0;
      packets = map (λ (p : List ℕ). given o.arrival (held_of o.arrival p)) (cut_by_c 16 (drop o.frame.pointer o.frame.octets));
    }) os

-- It tells other arrival numbers of the packets that the rules hand out: of the frame with the first octet for the last, and the reverse.
abbrev pub renumbering : (Handed → Handed) → List Offer → List Report
renumbering tell os =
    map (λ (r : Report). record { arrival = r.arrival; lost = r.lost; headers = r.headers; packets = map tell r.packets })
    (run fresh os)

abbrev pub first_for_last : List Offer → List Report
first_for_last os = renumbering (λ (p : Handed). record { first = p.first; arrival = p.first; packet = p.packet }) os

abbrev pub last_for_first : List Offer → List Report
last_for_first os = renumbering (λ (p : Handed). record { first = p.arrival; arrival = p.arrival; packet = p.packet }) os

-- A channel with another first number beside what it holds.
abbrev pub restarted : ℕ → Channel → Channel
restarted first c = record { last = c.last; in_step = c.in_step; held = held_of first c.held.octets }

-- It forgets the first number while only part of a header is held, and takes the next frame's for it.
abbrev pub forgets_first : List Offer → List Report
forgets_first os = run_by (λ a c f. step a (cond (ltb (length c.held.octets) 6) (restarted a c) c) f) fresh os

-- A raw frame moves the first number.
abbrev pub moves_first : List Offer → List Report
moves_first os = run_by (λ a c f. step a (cond (eqb f.pointer raw_data) (restarted a c) c) f) fresh os

abbrev pub lasts : List Handed → List ℕ
lasts ps = map (λ (p : Handed). p.arrival) ps

pub record Shams : Type 0 where
  -- 'It hands out .. the packets'.
  pub refuses-all : Fails refuses_all two plain
  pub joins_at_first_lem : Fails joins_at_first two plain
  -- 'At each later arrival it reports how many were lost': the packets are right, the losses are not.
  pub invents_losses_lem : Fails invents_losses two plain
  pub invents_losses_only : handed (invents_losses (offered plain)) ≡ expected two plain
  pub withholds_losses_lem : Fails withholds_losses two gap
  pub withholds_losses_only : handed (withholds_losses (offered gap)) ≡ expected two gap
  pub calls-unknown : Fails calls_unknown two gap
  pub calls-unknown-only : handed (calls_unknown (offered gap)) ≡ expected two gap
  -- 'exactly the packets for which every frame from first octet to last arrived': the losses are right, the packets are not.
  pub holds_across_lem : Fails holds_across two gap
  pub holds_across_only : losses (holds_across (offered gap)) ≡ expected_losses gap
  -- 'unchanged'.
  pub reads_c_lem : Fails reads_c two plain
  -- 'with the arrival numbers of the frames that held the first octet and the last': one of them is right, the other is not.
  pub first_for_last_lem : Fails first_for_last two parted
  pub first_for_last_only : firsts (handed (first_for_last (offered parted))) ≡ firsts (expected two parted)
  pub last_for_first_lem : Fails last_for_first two parted
  pub last_for_first_only : lasts (handed (last_for_first (offered parted))) ≡ lasts (expected two parted)
  pub forgets_first_lem : Fails forgets_first two split
  pub forgets_first_only : lasts (handed (forgets_first (offered split))) ≡ lasts (expected two split)
  pub moves-first : Fails moves_first two raws
  pub moves-first-only : lasts (handed (moves_first (offered raws))) ≡ lasts (expected two raws)
