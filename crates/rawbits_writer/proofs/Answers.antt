-- What a writer answers and leaves, at each of its ends.
use Rattle.std.specs.Prelude.{Ok, Err}
use Prim.Native.Nat.{ℕ, ◌≤◌}
use mathlib.Core.Path.{◌≡◌, sym, ap₂, ◌∙◌}
use mathlib.Core.Bool.{Bool, true, false, ◌||◌}
use mathlib.Core.List.{List}
use lib.ListN.{length}
use lib.Dec.{ltb}
use borrow.Author.Tests.{ltb-true, ltb-false, eqb-true, not-false}
use Rattle.octets.specs.Parts.{written}
use Rattle.octets.proofs.Tests.{or_left, or_right}
use Rattle.answer.specs.declared.Reason.TheVariants.{FieldRange, OutputShort}
use Rattle.answer.proofs.Writer.{refused_51, refused_50, wrote}
use Rattle.rules.specs.Packets.{cut, total}
use Rattle.lengths.specs.Lengths.{lengths_wrong}
use Rattle.rawbits_writer.specs.Stream.{any_outside, frames_wrong, stream_of, WroteFrames}
use Rattle.rawbits_writer.specs.Pen.{Frames, FramesRoom}

pub good-frames : (d ns : List ℕ) → frames_wrong d ns ≡ false → Frames d ns
good-frames d ns h =
    record {
      adds = eqb-true (total ns) (length d) (not-false _ (or_right (any_outside ns) (lengths_wrong ns (length d)) h));
      inside = or_left (any_outside ns) (lengths_wrong ns (length d)) h;
    }

module _ (d ns out : List ℕ) {a b : Bool} (e : a ≡ any_outside ns) (f : b ≡ lengths_wrong ns (length d)) where
  says : (a || b) ≡ frames_wrong d ns
  says = ap₂ (λ (x y : Bool). x || y) e f

  pub refuses_51 : (a || b) ≡ true → WroteFrames d ns out (Err FieldRange) out
  refuses_51 h = refused_51 says h

  module _ (h : (a || b) ≡ false) where
    pub asks : Frames d ns
    asks = good-frames d ns (sym says ∙ h)

    module _ {s : Bool} (g : s ≡ ltb (length out) (length (stream_of (cut d ns)))) where
      pub refuses_50 : s ≡ true → WroteFrames d ns out (Err OutputShort) out
      refuses_50 k = refused_50 says h (ltb-true (length out) (length (stream_of (cut d ns))) (sym g ∙ k))

      module _ (k : s ≡ false) where
        room : length (stream_of (cut d ns)) ≤ length out
        room = ltb-false (length out) (length (stream_of (cut d ns))) (sym g ∙ k)

        pub asks_room : FramesRoom d ns out
        asks_room = record { adds = asks.adds; room = room }

        pub writes : {n : ℕ} {out' : List ℕ} → (n ≡ length (stream_of (cut d ns))) × (out' ≡ written (stream_of (cut d ns)) out)
            → WroteFrames d ns out (Ok n) out'
        writes x = wrote says h room x.0 x.1
