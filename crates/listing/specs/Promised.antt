-- The text that is still to come from a receiver, and what its private functions ask and promise.
use Rattle.std.specs.Prelude.{ℕ, ◌*◌, List, [], ◌∷◌, ◌++◌, Bool, take, drop}
use Rattle.octets.specs.Pick.{pick}
use Rattle.answer.specs.Told.{Told}
use Rattle.rules.specs.Channel.{Handed}
use Rattle.source.specs.Found.{found_in, cut_at}
use Rattle.source.specs.declared.Source.{Source}
use Rattle.session.specs.declared.Accepted.{Accepted}
use Rattle.receiver.specs.declared.Receiver.{Receiver}
use Rattle.listing_lines.specs.Text.{longest_line, answer_text, bad_recording}
use Rattle.listing.specs.Listing.{listed, packets_text}

-- The most octets that the lines of one frame take: its own and those of 16 packets.
abbrev pub room : ℕ
room = 17 * longest_line

-- The text that is still to come from a receiver that keeps these octets, with w at hand, if the input has ended or not.
abbrev pub to_come : Receiver → List ℕ → List ℕ → Bool → List ℕ
to_come a kept w ended = listed a.session (found_in a.source kept w) ended

-- At the input's end: nothing, unless the input may not end there.
abbrev pub at_end : Source → List ℕ
at_end s = pick (cut_at s) bad_recording []

-- Octets cut into packets of these lengths, with these first numbers, handed out under the arrival number a.
abbrev pub cut : ℕ → List ℕ → List ℕ → List ℕ → List Handed
cut a octets [] firsts = []
cut a octets (n ∷ ns) [] = []
cut a octets (n ∷ ns) (first ∷ firsts) = record { first = first; arrival = a; packet = take n octets } ∷ cut a (drop n octets) ns firsts

-- The lines of a frame that was answered so, its packets being at the start of lent octets, their lengths and first numbers at that of
-- lent lists.
abbrev pub answered : ℕ → Told Accepted → List ℕ → List ℕ → List ℕ → List ℕ
answered arrival t octets lengths firsts =
    answer_text arrival t ++ packets_text (cut arrival octets (take t.fields.packets lengths) firsts)
