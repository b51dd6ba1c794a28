-- 3. The link: it may lose frames, but not alter, repeat or reorder them. What is none of the sender's may come between them.
use Rattle.std.specs.Prelude.{ℕ, ◌+◌, List, [], ◌∷◌, ◌++◌, map, ◌≡◌, Bool, true, false}
use Rattle.frame.specs.Frame.{read_frame}
use Rattle.rules.specs.Channel.{Piece}
use Rattle.stretch.specs.Stretch.{Stretch, found, unread}
use Rattle.sender.specs.Sender.{Framed, sent_octets, when, of_channel, piece_of}

-- A frame as sent, with its fate: lost, or offered to the session under an arrival number.
pub data Fate : Type 0 where
  lost : Piece → Fate
  got : ℕ → Piece → Fate

-- What the link does next: the next frame arrives, or is lost, or a stretch comes that is none of the sender's frames.
pub data Passing : Type 0 where
  arrives loses : Passing
  noise : Stretch → Passing

-- Such a stretch: one that was refused before any frame could be read (16 to 19), or octets that the frame reader refuses (10, 11, 120 to
-- 123, 13 to 15): noise, a frame that was damaged on its way, what another station sent in a form of its own.
abbrev pub Stray : ℕ → Stretch → Type 0
Stray t (found x) = (read_frame t x).accepted ≡ false
Stray t (unread n) = Unit {0}

-- Every stretch of the link that is none of the sender's frames is such a one.
abbrev pub Strays : ℕ → List Passing → Type 0
Strays t [] = Unit {0}
Strays t (arrives ∷ link) = Strays t link
Strays t (loses ∷ link) = Strays t link
Strays t (noise x ∷ link) = Stray t x × Strays t link

-- The frames that arrive; beyond the link's end all are lost.
abbrev pub kept : List Passing → List Framed → List Framed
kept [] frames = []
kept (p ∷ link) [] = []
kept (arrives ∷ link) (f ∷ frames) = f ∷ kept link frames
kept (loses ∷ link) (f ∷ frames) = kept link frames
kept (noise x ∷ link) (f ∷ frames) = kept link (f ∷ frames)

-- What the link leaves of frames, as octets: those that arrive, and the stretches between them.
abbrev pub passed : List Passing → List (List ℕ) → List Stretch
passed [] frames = []
passed (noise x ∷ link) frames = x ∷ passed link frames
passed (arrives ∷ link) [] = passed link []
passed (arrives ∷ link) (octets ∷ frames) = found octets ∷ passed link frames
passed (loses ∷ link) [] = passed link []
passed (loses ∷ link) (octets ∷ frames) = passed link frames

-- What is offered to a session: that of the frames' octets, all of time size t.
abbrev pub arriving : ℕ → List Passing → List Framed → List Stretch
arriving t link frames = passed link (map (sent_octets t) frames)

-- The fates of the frames that `which` picks out. All that is offered takes the arrival numbers from last + 1 on, what is none of the
-- sender's too.
abbrev pub fates_of : (Framed → Bool) → ℕ → List Passing → List Framed → List Fate
fates_of which last link [] = []
fates_of which last [] (f ∷ frames) = when (which f) (lost (piece_of f)) ++ fates_of which last [] frames
fates_of which last (arrives ∷ link) (f ∷ frames) = when (which f) (got (last + 1) (piece_of f)) ++ fates_of which (last + 1) link frames
fates_of which last (loses ∷ link) (f ∷ frames) = when (which f) (lost (piece_of f)) ++ fates_of which last link frames
fates_of which last (noise x ∷ link) (f ∷ frames) = fates_of which (last + 1) link (f ∷ frames)

-- Those of channel v, and those of all channels.
abbrev pub fates : ℕ → ℕ → List Passing → List Framed → List Fate
fates v last link frames = fates_of (of_channel v) last link frames

abbrev pub all_fates : ℕ → List Passing → List Framed → List Fate
all_fates last link frames = fates_of (λ f. true) last link frames
