-- What is listed of a stream: document 01's header line, then its lines.
use Rattle.std.specs.Prelude.{ℕ, ◌≡◌, List, ◌++◌, map, Bool, length}
use Rattle.stretch.specs.Stretch.{Stretch, most_kept}
use Rattle.kiss.specs.Stream as kiss
use Rattle.rawbits.specs.Recording as rawbits
use Rattle.source.specs.Found.{offers}
use Rattle.source.specs.Scan.{fresh_kiss, fresh_bits}
use Rattle.source.specs.declared.Source.{Source}
use Rattle.session.specs.Open.{opening}
use Rattle.receiver.specs.Receive.{fresh_stream}
use Rattle.listing_lines.specs.Text.{header}
use Rattle.listing.specs.Listing.{items_text}
use Rattle.listing.specs.Promised.{to_come}

-- A session of t is offered what the stream holds, one after another.
abbrev pub stream_listing : ℕ → List Stretch → List ℕ
stream_listing t xs = header ++ items_text (opening t 0).session (map offers xs)

-- Behind the header line what is to come from a receiver of a stream of which nothing is read yet is that of all that the stream holds,
-- whether the input has ended or not: with listing's `PiecesAreListed`, in whatever pieces it comes.
abbrev pub Lists : Source → (List ℕ → List Stretch) → Type 0
Lists s stretches_in = (t : ℕ) (kept octets : List ℕ) (ended : Bool) → length kept ≡ most_kept
    → header ++ to_come (fresh_stream s t) kept octets ended ≡ stream_listing t (stretches_in octets)

abbrev pub ListsKiss : Type 0
ListsKiss = Lists fresh_kiss kiss.stretches_in

abbrev pub ListsBits : Type 0
ListsBits = Lists fresh_bits rawbits.stretches_in
