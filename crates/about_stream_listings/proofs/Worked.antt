-- What is listed of the worked streams: computed by the definitions.
use mathlib.Core.Path.{◌≡◌, refl, ap, ◌∙◌}
use mathlib.Core.List.{List}
use Rattle.octets.specs.Pick.{pick}
use Rattle.octets.specs.Parts.{part}
use Rattle.bits.specs.Rows.{ones}
use Rattle.bits.specs.Rows.Order.{low_first}
use Rattle.crc.specs.Check.{check, with_check, check_wrong}
use Rattle.counts.specs.Lost.{lost_since}
use Rattle.frame.specs.Address.{first_wrong, wrong_behind}
use Rattle.frame.specs.Frame.{status_wrong, pointer_wrong, frame_of, read_information, read_header, read_frame}
use Rattle.frame.specs.Write.{frame_octets}
use Rattle.packet.specs.Packet as packet
use Rattle.stretch.specs.Stretch.{Stretch}
use Rattle.rules.specs.Bounds.{held_wrong}
use Rattle.rules.specs.Channel.{standing, push, place_after, length_holds, enter, follow, step}
use Rattle.session.specs.Channel.{view, stored, unsound}
use Rattle.session.specs.Open.{opening}
use Rattle.session.specs.Step.{ruled, accepted, barred, outcome, turned_away}
use Rattle.receiver.specs.Run.{roomy}
use Rattle.decimal.specs.Text.{decimal}
use Rattle.listing_lines.specs.Text.{accepted_line, refused_line, turned_away_line}
use Rattle.listing.specs.Listing.{outcome_text}
use Rattle.about_delivery.specs.Link.{arriving}
use Rattle.about_streams.specs.Worked.{frames, noisy, relayed, kiss_stream, damaged, bits_stream}
use Rattle.about_streams.proofs.Worked.{worked_kiss, worked-bits}
use Rattle.about_stream_listings.specs.Streamed.{stream_listing}
use Rattle.about_stream_listings.specs.Worked.{kiss_lines, bits_lines, WorkedListing}
use Rattle.about_stream_listings.proofs.Streamed.{lists_kiss, lists-bits}

abbrev kiss_held : List Stretch
kiss_held = arriving 2 (noisy 18 19 (with_check low_first (ones 16) relayed)) frames

abbrev bits_held : List Stretch
bits_held = arriving 2 (noisy 17 16 damaged) frames

both-listed : (stream_listing 2 kiss_held ≡ kiss_lines) × (stream_listing 2 bits_held ≡ bits_lines)
unfolding pick part check with_check check_wrong lost_since first_wrong wrong_behind status_wrong pointer_wrong frame_of read_information
    read_header read_frame frame_octets packet.length_wrong packet.fields_of packet.read_packet held_wrong standing push place_after
    length_holds enter follow step view stored unsound opening ruled accepted barred outcome turned_away roomy decimal accepted_line
    refused_line turned_away_line outcome_text
both-listed = (refl, refl)

pub worked-listing : WorkedListing
worked-listing =
    record {
      of_kiss_lem = λ kept ended h. lists_kiss 2 kept kiss_stream ended h ∙ ap (stream_listing 2) worked_kiss.holds ∙ both-listed.0;
      of_bits_lem = λ kept ended h. lists-bits 2 kept bits_stream ended h ∙ ap (stream_listing 2) worked-bits.holds ∙ both-listed.1;
    }
