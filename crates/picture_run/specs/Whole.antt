-- What the whole loop gathers, what is written then, and the exit status of a run.
use Rattle.std.specs.Prelude.{ℕ, ◌≤◌, ◌<◌, ◌≡◌, List, [], ◌++◌, Bool, true, false, ◌||◌, ℤ, length, replicate}
use Rattle.octets.specs.Pick.{pick}
use Rattle.session.specs.Lent.{Lent}
use Rattle.receiver.specs.declared.Receiver.{Receiver}
use Rattle.image.specs.Line.{Image, image_lines, image_octets}
use Rattle.words.specs.Words.{number_of}
use Rattle.feed.specs.Pull.{fresh}
use Rattle.window.specs.Turns.{Loops}
use Rattle.window.specs.Window.{unread}
use Rattle.window.specs.Status.{done, against, broken}
use Rattle.picture_images.specs.Noted.{images_in}
use Rattle.picture_images.specs.Line.{line_of}
use Rattle.picture_run.specs.Files.{shown_of, no_line}
use Rattle.picture_run.specs.Gathered.{Gathered, gathered, Turned, with_octets}
use Rattle.picture_run.specs.declared.ending.Ended.{Ended}
use Rattle.picture_run.specs.declared.State.{State}
use Rattle.picture_run.specs.declared.Stopped.{Stopped}

-- ---- the loop

-- Where the loop stands: its state, the input, the octets kept, what is lent, what is gathered, and all that was read.
pub record Place : Type 0 where
  pub state : State
  pub input : List ℕ
  pub kept : List ℕ
  pub lends : Lent
  pub gathers : Gathered
  pub octets : List ℕ

abbrev pub going_at : Place → Bool
going_at p = p.state.going

-- A turn, which writes nothing.
pub record TurnedAt (wanted : ℕ) (p : Place) (said : List ℕ) (q : Place) : Type 0 where
  pub turned : Turned wanted p.state p.input p.kept p.lends p.gathers q.state q.input q.kept q.lends q.gathers
  pub says : said ≡ []
  pub read : q.octets ≡ p.octets ++ turned.pulls.piece

abbrev pub place : State → List ℕ → List ℕ → Lent → Gathered → List ℕ → Place
place s input kept l g octets = record { state = s; input = input; kept = kept; lends = l; gathers = g; octets = octets }

abbrev pub start_of : Receiver → State
start_of a = record { feed = fresh; receiver = a; going = true; bad = false; read = unread }

-- The contract of the loop: turns one after another from the start on, until one says stop.
pub record Looped (wanted : ℕ) (a : Receiver) (g : Gathered) (r : Stopped) (g' : Gathered) : Type 0 where
  pub input : List ℕ
  pub kept : List ℕ
  pub lends : Lent
  pub input' : List ℕ
  pub kept' : List ℕ
  pub lends' : Lent
  pub octets : List ℕ
  pub loops : Loops going_at (TurnedAt wanted) (place (start_of a) input kept lends g []) r.made
      (place r.state input' kept' lends' g' octets)

-- If the loop stopped and no read failed, all is gathered that all the octets read make.
pub record LoopsGather : Type 0 where
  pub gathers : {wanted : ℕ} {a : Receiver} {g : Gathered} {r : Stopped} {g' : Gathered} (l : Looped wanted a g r g')
      → r.state.going ≡ false → r.state.read.failed ≡ false → g' ≡ with_octets wanted a l.kept l.octets g

-- ---- what is written and told then

-- Whether the input was not taken to its end.
abbrev pub broke : Stopped → Bool
broke r = r.state.going || r.state.read.failed

-- Nothing if the input was not taken to its end or no line was received; else the image, or its line numbers.
abbrev pub written_of : Bool → Stopped → Image → List ℕ
written_of lines r image = pick (broke r) [] (pick (no_line image.lines) [] (shown_of lines image))

-- Nothing if the input was not taken to its end or a line was received; else which images' lines were.
abbrev pub told_of : ℕ → Stopped → Image → List ℕ → List ℕ
told_of wanted r image images = pick (broke r) [] (pick (no_line image.lines) (line_of wanted (images_in images)) [])

-- The contract of the end: whether no line was received, and how many octets are told and handed to a write.
pub record Finished (lines : Bool) (wanted : ℕ) (r : Stopped) (image : Image) (images : List ℕ) (e : Ended) : Type 0 where
  pub none : e.none ≡ pick (broke r) false (no_line image.lines)
  pub tells : e.told ≡ length (told_of wanted r image images)
  pub wrote : e.written.size ≡ length (written_of lines r image)

-- ---- the whole run

-- 2 if the input was not taken to its end or the write failed; 1 if no line was received or the recording is bad; else 0.
abbrev pub status_of : Stopped → Ended → ℤ
status_of r e =
    pick (broke r) broken (pick e.none against (pick e.written.failed broken (pick r.state.bad against done)))

-- At the start nothing is received, refused or noted.
unfoldable pub black : List ℕ
black = replicate image_octets 0

unfoldable pub unnoted : List ℕ
unnoted = replicate 65536 0

abbrev pub nothing : Gathered
nothing = gathered black (replicate image_lines 0) (replicate 124 0) unnoted (replicate 124 0)

-- The loop, what is written and told then, and the status.
pub record Shown (wanted : ℕ) (lines : Bool) (a : Receiver) (status : ℤ) : Type 0 where
  pub stopped : Stopped
  pub all : Gathered
  pub looped : Looped wanted a nothing stopped all
  pub ended : Ended
  pub finished : Finished lines wanted stopped all.received.image all.received.images ended
  pub says : status ≡ status_of stopped ended

-- The largest number of an image.
abbrev pub last_image : ℕ
last_image = 65535

-- The contract of a run: 2 if the word is no number of an image; else of the image with that number.
pub record Ran (word : List ℕ) (lines : Bool) (a : Receiver) (status : ℤ) : Type 0 where
  pub wrong : last_image < number_of word → status ≡ broken
  pub right : number_of word ≤ last_image → Shown (number_of word) lines a status

-- If a run ends with 0, so many octets were handed to a write that did not fail as the image has, or its line numbers, which all the
-- octets read make; and a line of it was received.
pub record AllShown {wanted : ℕ} {lines : Bool} {a : Receiver} {status : ℤ} (s : Shown wanted lines a status) : Type 0 where
  pub all : s.all ≡ with_octets wanted a s.looped.kept s.looped.octets nothing
  pub some : no_line s.all.received.image.lines ≡ false
  pub wrote : s.ended.written.size ≡ length (shown_of lines s.all.received.image)
  pub written : s.ended.written.failed ≡ false
  pub good : s.stopped.state.bad ≡ false

pub record DoneIsShown : Type 0 where
  pub shows : {wanted : ℕ} {lines : Bool} {a : Receiver} {status : ℤ} (s : Shown wanted lines a status) → status ≡ done → AllShown s
