-- Demand 3 for frames that arrive by a stream of octets: said once for every kind of stream.
use Rattle.std.specs.Prelude.{ℕ, ◌<◌, ◌≡◌, List, [], ◌∷◌, map}
use Rattle.rules.specs.Limits.{virtual_channels}
use Rattle.stretch.specs.Stretch.{Stretch, clipped}
use Rattle.session.specs.Lent.{Lent}
use Rattle.session.specs.Statements.{offered}
use Rattle.session.specs.declared.Session.{Session}
use Rattle.sender.specs.Sender.{Framed, Sender}
use Rattle.about_delivery.specs.Link.{Passing, Strays, arrives, loses, noise, arriving, fates}
use Rattle.about_delivery.specs.Expected.{FewLost}
use Rattle.about_delivery.specs.Delivered.{Delivered}
use Rattle.about_delivery.specs.Run.{reports_of}
use Rattle.about_delivery.specs.Returned.{Offered}

-- A kind of stream: the stretches that octets hold, and what a reader may tell of them by its promise, in whatever pieces they come.
module _ (held : List ℕ → List Stretch) (Tells : List ℕ → List Stretch → Type 0) where
  -- The reader tells what the octets hold, of a stretch that is too long as many octets as it keeps.
  abbrev pub Faithful : Type 0
  Faithful = (stream : List ℕ) (told : List Stretch) → Tells stream told → told ≡ map clipped (held stream)

  -- If a stream holds what a link leaves of a sender's frames, with stretches between them that are refused before any frame could be
  -- read or that the frame reader turns away, and a session is offered what the reader tells of it, demand 3 holds.
  abbrev pub Carries : Type 0
  Carries =
      (t : ℕ) (frames : List Framed) (sender : Sender t frames) (link : List Passing) → Strays t link
      → (stream : List ℕ) (told : List Stretch) → held stream ≡ arriving t link frames → Tells stream told → (o : Offered t told)
      → (v : ℕ) (l : v < virtual_channels) → FewLost (fates v o.last link frames)
      → Delivered (sender.streams v l).packets (fates v o.last link frames) (reports_of v o.calls)

-- What some scans tell of a stream: every stream can be read.
pub record Read (Tells : List ℕ → List Stretch → Type 0) (stream : List ℕ) : Type 0 where
  pub told : List Stretch
  pub tells : Tells stream told

abbrev pub Readable : (List ℕ → List Stretch → Type 0) → Type 0
Readable Tells = (stream : List ℕ) → Read Tells stream

-- Octets beyond those that a reader keeps change nothing of what comes of an offer.
abbrev pub ClippedAlike : Type 0
ClippedAlike = (s : Session) (x : Stretch) (l : Lent) → offered s (clipped x) l ≡ offered s x l

-- No stretch is refused on the way.
abbrev pub Quiet : List Passing → Type 0
Quiet [] = Unit {0}
Quiet (arrives ∷ link) = Quiet link
Quiet (loses ∷ link) = Quiet link
Quiet (noise x ∷ link) = ⊥
