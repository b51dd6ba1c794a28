-- Rule 5 as `cut_of` has it, and as `feed` has it.
use Prim.Native.Nat.{ℕ, ◌+◌, ◌≤◌}
use native.Mathlib.Omega.{arith}
use mathlib.Core.Path.{◌≡◌, sym, ap, ◌∙◌, subst}
use mathlib.Core.Bool.{Bool, ◌&&◌}
use mathlib.Core.List.{List, [], ◌++◌, map}
use lib.ListN.{length, take, drop, length-map}
use Rattle.octets.specs.Parts.{written}
use Rattle.rules.specs.Channel.{held_of, begun_in, cleared, Handed, Work, holding, feed}
use Rattle.rules.specs.Packets.{bare, joined}
use Rattle.rules.specs.Cutting.{Cut, cut_by, cut_of, after, header, firsts_of, first_behind, Begins}
use Rattle.rules.proofs.Cutting.{header-more}
use Rattle.rules.proofs.Cuts.{cuts_on, firsts-on}
use Rattle.session.specs.Channel.{channel_of, stored}
use Rattle.session.specs.Lent.{lent}
use Rattle.session.specs.Asked.{Taken, Completed, Counted, Front}
use Rattle.session.specs.Promised.{Cuts, in_step_if, Follows}
use Rattle.session.specs.declared.Channel.{Channel}
use Rattle.session.specs.declared.cutting.Found.{Found}
use Rattle.session.proofs.Lending.{lent_same}

module _ (n : ℕ) (held xs out lengths firsts : List ℕ) (t : Taken n held xs (lent out lengths firsts)) where
  pub to-cut : Counted held xs lengths firsts
  to-cut = record {
    begun = t.begun;
    entries = omega (arith, t.most, t.room.lengths);
    numbers = omega
        (arith, t.most, t.room.firsts);
  }

  module _ (f a : ℕ) (r : Found) (lengths' firsts' : List ℕ) (k : Cuts f a held xs r lengths firsts lengths' firsts') where
    pub few-packets : r.packets ≤ 16
    few-packets = omega (arith, k.packets, t.most)

    -- one that was held whole was found too
    pub to_complete : Completed n r.headers (length held)
    to_complete = record {
      one = t.one;
      few = omega (arith, few-packets, k.few);
      some = λ l. omega (
        arith,
        k.headers,
        header-more (length held) l,
        ap (λ (c : Cut). c.headers)
            (cuts_on a 0 (held_of 0 held) xs t.begun.unfinished),
      );
    }

    pub few-headers : (m : ℕ) → header (length held) + m ≡ n + r.headers → m ≤ 255
    few-headers m e = omega (arith, e, t.one, few-packets, k.few)

    pub to-hand-out : Front held xs r.octets out
    to-hand-out = record {
      within = k.within;
      past = k.past;
      room = omega (arith, k.within, t.begun.short, t.begun.few, t.room.octets);
    }

    -- g is kept with what is held
    module _ (g : ℕ) (begun : f ≡ begun_in a g (length held)) (count : ℕ) (b : Bool) (out' : List ℕ)
        (o : out' ≡ written (take r.octets (held ++ xs)) out) where
      abbrev work : Work
      work = feed a (holding (held_of g held) [] n) xs

      same : after [] (header (length held)) (cut_by work) ≡ after [] n (cut_of (held ++ xs))
      same = cuts_on a n (held_of g held) xs t.begun.unfinished

      in_step_lem : work.in_step ≡ r.instep
      in_step_lem = ap (λ (c : Cut). c.in_step) same ∙ sym k.in_step

      is_held : work.held.octets ≡ (cut_of (held ++ xs)).held
      is_held = ap (λ (c : Cut). c.held) same

      packets : bare work.packets ≡ (cut_of (held ++ xs)).packets
      packets = ap (λ (c : Cut). c.packets) same

      number : r.packets ≡ length work.packets
      number = k.packets ∙ ap length (sym packets) ∙ length-map work.packets (λ (p : Handed). p.packet)

      begins : Begins f a work
      begins = subst (λ (m : ℕ). Begins m a work) (sym begun) (firsts-on a n (held_of g held) xs)

      -- what is left, with its first number
      left : cleared (held_of r.first (drop r.kept (held ++ xs))) ≡ cleared work.held
      left =
          ap (λ (l : List ℕ). cleared (held_of r.first l)) (sym (is_held ∙ k.rest))
          ∙ ap (λ (m : ℕ). cleared (held_of m work.held.octets)) (k.first ∙ ap (first_behind f a) number)
          ∙ sym begins.left

      -- the headers of this frame
      counts : (m : ℕ) → header (length held) + m ≡ n + r.headers → m ≡ work.headers
      counts m e = omega (arith, e, k.headers, ap (λ (c : Cut). c.headers) same)

      pub takes : (x : Channel) (m : ℕ) → header (length held) + m ≡ n + r.headers → x ≡ stored
          (channel_of count (b && r.instep) (cleared (held_of r.first (drop r.kept (held ++ xs)))))
          → Follows count (in_step_if b work) (record { channel = x; packets = r.packets; headers = m }) (lent out lengths firsts)
          (lent out' lengths' firsts')
      takes x m c e = record {
        channel =
            e
            ∙ ap (λ h. stored (channel_of count (b && r.instep) h)) left
            ∙ ap (λ (s : Bool). stored (channel_of count (b && s) (cleared work.held))) (sym in_step_lem);
        packets = number;
        headers = counts m c;
        leaves = lent_same
            (o ∙ ap (λ (l : List ℕ). written l out) (sym (ap joined packets ∙ k.front)))
            (k.lengths ∙ ap (λ (l : List (List ℕ)). written (map length l) lengths) (sym packets))
            (k.firsts ∙ ap (λ (n : ℕ). written (firsts_of f a n) firsts) number ∙ ap (λ (l : List ℕ). written l firsts)
            (sym begins.packets));
      }
