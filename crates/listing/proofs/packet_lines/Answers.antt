use Rattle.std.proofs.Common.{◌≡◌, refl, ◌+◌, ◌-◌, ◌≤◌, ◌<◌, ℕ, List, length, take, drop, get_or, ap, sym, subst, ◌∙◌, rules, arith}
use Rattle.decimal.specs.Laid.{Puts}
use Rattle.decimal.proofs.Laid.{no_number, resaid}
use Rattle.packet.specs.Packet.{read_packet}
use Rattle.rules.specs.Packets.{total}
use Rattle.listing_lines.specs.Text.{longest_line}
use Rattle.listing.specs.Listing.{packets_text}
use Rattle.listing.specs.Promised.{cut}
use Rattle.listing.proofs.Packets.{next-from, next-inside, by-number, one-packet-more}
use Rattle.listing.proofs.packet_lines.Goals as goal

pub loop-i-init : goal.loop-i-init
loop-i-init c = (search rules, no_number _ _)

-- the packet at index i lies within the octets
ends : (c : goal.After-from) → total (take c.loop-i.i c.args.lengths.now) + get_or c.args.lengths.now c.loop-i.i 0 ≤ length c.args.octets.now
ends c =
    let h : c.loop-i.i < length c.args.lengths.now = omega (arith, c.requires.lengths_len.0, c.requires.packets_bound) in
    next-inside c.args.lengths.now c.loop-i.i h c.loop-i-test.true c.requires.lengths_in_bounds

pub overflow_add-end : goal.overflow_add-end
overflow_add-end c = omega (arith, ends c, c.loop-i.invariant.0, c.from.ensures)

pub slice_bounds-read-end : goal.slice_bounds-read-end
slice_bounds-read-end c = omega (arith, ends c, c.loop-i.invariant.0, c.from.ensures)

pub loop-i-preserved : goal.loop-i-preserved
loop-i-preserved c =
    let a = c.args in
    let l = c.loop-i in
    let inside : l.i < length a.lengths.now = omega (arith, c.requires.lengths_len.0, c.requires.packets_bound) in
    let numbers : l.i < length a.firsts.now = omega (arith, c.requires.lengths_len.1, c.requires.packets_bound) in
    let size : (l.from + c.from.result) - l.from ≡ get_or a.lengths.now l.i 0 = omega (arith, c.from.ensures) in (
      ap (λ (k : ℕ). k + c.from.result) l.invariant.0 ∙ ap (λ (k : ℕ). total (take l.i a.lengths.now) + k) c.from.ensures
          ∙ sym (next-from a.lengths.now l.i inside),
      one-packet-more a.lengths.now l.i inside a.arrival a.octets.now a.firsts.now c.read.result (omega (arith, c.requires.packets_in_bounds)) numbers refl l.invariant.0
          (next-inside a.lengths.now l.i inside c.loop-i-test.true c.requires.lengths_in_bounds)
          (c.read.ensures ∙ ap (λ (k : ℕ). read_packet (take k (drop l.from a.octets.now))) size)
          l.invariant.1 (omega (arith, c.loop-i.auto.out, l.invariant.1.near, c.requires.packets_in_bounds))
          (subst (λ (t : List ℕ). Puts longest_line t l.out l.next c.packet_line-next.new.out c.packet_line-next.result)
          (by-number (get_or a.firsts.now l.i 0) a.arrival (get_or a.lengths.now l.i 0) c.read.result c.map_err-read.result
          c.map_err-read.ensures.cases) c.packet_line-next.ensures),
    )

pub returns : goal.returns
returns c =
    let l = c.loop-i in
    let a = c.args in
    let all : l.i ≡ a.packets = omega arith in
    resaid (ap (λ (k : ℕ). packets_text (cut a.arrival a.octets.now (take k a.lengths.now) a.firsts.now)) all)
    (omega arith) l.invariant.1
