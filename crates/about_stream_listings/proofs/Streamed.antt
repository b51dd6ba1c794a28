-- What is listed of a stream is the lines of what it holds.
use Prim.Native.Nat.{ℕ}
use mathlib.Core.Path.{◌≡◌, refl, ap, ◌∙◌}
use mathlib.Core.List.{List, [], ◌∷◌, ◌++◌, map, append-nil}
use mathlib.Core.Bool.{Bool, true, false}
use lib.ListN.{length}
use Rattle.octets.specs.Pick.{pick}
use Rattle.stretch.specs.Stretch.{Stretch, most_kept, clipped}
use Rattle.kiss.specs.Stream as kiss
use Rattle.rawbits.specs.Recording as rawbits
use Rattle.source.specs.Found.{Found, offers, of_stream, found_in}
use Rattle.source.specs.Scan.{fresh_kiss, fresh_bits}
use Rattle.source.specs.declared.Source.{Source}
use Rattle.session.specs.Open.{opening}
use Rattle.session.specs.Step.{Outcome}
use Rattle.session.specs.declared.Session.{Session}
use Rattle.receiver.specs.Run.{roomy}
use Rattle.about_streams.proofs.Carried.{clipped-offer}
use Rattle.listing_lines.specs.Text.{header}
use Rattle.listing.specs.Listing.{made, outcome_text, items_text, listed}
use Rattle.about_stream_listings.specs.Streamed.{Lists, ListsKiss, ListsBits}
use Rattle.kiss.proofs.Streaming.{finds_stream as kiss-found}
use Rattle.rawbits.proofs.Finding.{finds_stream as bits-found}

-- what a reader does not keep of a frame that is too long changes no line
same_lines : (s : Session) (xs : List Stretch) → items_text s (map offers (map clipped xs)) ≡ items_text s (map offers xs)
same_lines s [] = refl
same_lines s (x ∷ xs) =
    ap (λ (o : Outcome). outcome_text o ++ items_text o.session (map offers (map clipped xs))) (clipped-offer s x roomy)
    ∙ ap (λ (text : List ℕ). outcome_text (made s x) ++ text) (same_lines (made s x).session xs)

-- a stream is never bad
no_last_line : (s : Session) (xs : List Stretch) (ended : Bool) → listed s (of_stream xs) ended ≡ items_text s (map offers xs)
unfolding listed pick
no_last_line s xs true = append-nil (items_text s (map offers xs))
no_last_line s xs false = append-nil (items_text s (map offers xs))

-- a source that finds what the stream holds, as far as it is kept
lists : (s : Source) (holds : List ℕ → List Stretch)
    → ((kept octets : List ℕ) → length kept ≡ most_kept → found_in s kept octets ≡ of_stream (map clipped (holds octets))) → Lists s holds
lists s holds found t kept octets ended h =
    ap (λ (text : List ℕ). header ++ text)
    (ap (λ (f : Found). listed (opening t 0).session f ended) (found kept octets h)
    ∙ no_last_line (opening t 0).session (map clipped (holds octets)) ended
    ∙ same_lines (opening t 0).session (holds octets))

pub lists_kiss : ListsKiss
lists_kiss = lists fresh_kiss kiss.stretches_in (λ kept octets h. ap of_stream (kiss-found kept octets h))

pub lists-bits : ListsBits
lists-bits = lists fresh_bits rawbits.stretches_in (λ kept octets h. ap of_stream (bits-found kept octets h))
