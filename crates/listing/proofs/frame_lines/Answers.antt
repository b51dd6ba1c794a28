use Rattle.std.proofs.Common.{◌≤◌, ℕ, length, take, subst, sym, arith}
use Rattle.rules.specs.Packets.{total}
use Rattle.listing.proofs.Packets.{told-packets, line-laid, with_packets, without_packets}
use Rattle.listing.proofs.frame_lines.Goals as goal

pub packet_lines-requires : goal.packet_lines-requires
packet_lines-requires c =
    let l = c.answer_line-next in
    let a = c.args in
    let many = told-packets c.in-Ok.is c.from.ensures in
    record {
      packets_in_bounds =
          omega (
            arith,
            (line-laid a.answer a.arrival a.octets.now a.lengths.now a.firsts.now (omega (arith, c.requires.room_in_bounds))
                l.ensures).near,
            l.auto.out,
            c.requires.room_in_bounds,
            many,
            c.requires.answer_bound,
          );
      packets_bound = omega (arith, many, c.requires.answer_bound);
      lengths_len = c.requires.lengths_len;
      lengths_in_bounds = subst (λ (n : ℕ). total (take n a.lengths.now) ≤ length a.octets.now) (sym many) c.requires.lengths_in_bounds;
    }

pub returns-in-Ok : goal.returns-in-Ok
returns-in-Ok c =
    let a = c.args in
    let many = told-packets c.in-Ok.is c.from.ensures in
    with_packets a.answer a.arrival a.octets.now a.lengths.now a.firsts.now (omega (arith, c.requires.room_in_bounds))
    c.answer_line-next.ensures many (omega (arith, many, c.requires.answer_bound)) c.packet_lines.ensures

pub returns-in-Err : goal.returns-in-Err
returns-in-Err c =
    let a = c.args in
    without_packets a.answer a.arrival a.octets.now a.lengths.now a.firsts.now (omega (arith, c.requires.room_in_bounds))
    c.answer_line-next.ensures c.in-Err.is
