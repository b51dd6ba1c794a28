-- Demand 2 over the calls `write`, `read`, `data` and `time`, by the contracts that Rattle generates of them.
use Rattle.std.specs.Prelude.{Ok}
use Prim.Native.Nat.{ℕ}
use mathlib.Core.Path.{◌≡◌, refl}
use mathlib.Core.List.{List}
use lib.ListN.{length}
use Rattle.answer.specs.Called.{Called}
use Rattle.answer.specs.Back.{Format, CallsBack}
use Rattle.answer.specs.Writer.{Written}
use Rattle.answer.proofs.Called.{of_call}
use Rattle.answer.proofs.Back.{Defined}
use Rattle.answer.proofs.Back as back
use Rattle.frame.specs.Frame.{told, read_frame, data_of, time_of}
use Rattle.frame.specs.Write.{fields_wrong, frame_octets, WroteFrame}
use Rattle.frame.specs.declared.Frame.{Frame}
use Rattle.frame.specs.Answers.{FrameRead}
use Rattle.frame.proofs.ReadsBack.{reads-back}
use Rattle.frame.proofs.Told.{told_apart}
use Rattle.frame.proofs.WritesBack.{writes-back}
use Rattle.frame.proofs.Frame.read.Kinds as kread
use Rattle.frame.proofs.Frame.read.Reads as rread
use Rattle.frame.proofs.Frame.data.Kinds as kdata
use Rattle.frame.proofs.Frame.data.Reads as rdata
use Rattle.frame.proofs.Frame.time.Kinds as ktime
use Rattle.frame.proofs.Frame.time.Reads as rtime
use Rattle.frame.proofs.Frame.write.Kinds as kwrite
use Rattle.frame.proofs.Frame.write.Reads as rwrite

module _ (t : ℕ) where
  -- fields, t, data, time, output, answer and output afterwards of a call of `write`
  abbrev pub Writes : Frame → List ℕ × List ℕ → List ℕ → Written → List ℕ → Type 0
  Writes f b out r out' =
      Called kwrite.ps kwrite.r rwrite.Post {A = Frame × ℕ × List ℕ × List ℕ × List ℕ × Written × List ℕ}
      (λ κs a x s. (a.0, a.1.0, a.1.1.0.now, a.1.1.1.0.now, a.1.1.1.1.0.now, x, s.1.1.1.1.0.now))
      (f, t, b.0, b.1, out, r, out')

  -- t, octets and answer of a call of `read`
  abbrev pub Reads : List ℕ → FrameRead → Type 0
  Reads s q = Called kread.ps kread.r rread.Post {A = ℕ × List ℕ × FrameRead} (λ κs a x e. (a.0, a.1.0.now, x)) (t, s, q)

  -- fields, octets and answer of a call of `data`
  abbrev pub FindsData : Frame → List ℕ → List ℕ → Type 0
  FindsData f s d =
      Called kdata.ps kdata.r rdata.Post {A = Frame × List ℕ × List ℕ} (λ κs a x e. (a.0, a.1.0.now, x.now)) (f, s, d)

  -- fields, t, octets and answer of a call of `time`
  abbrev pub FindsTime : Frame → List ℕ → List ℕ → Type 0
  FindsTime f s m =
      Called ktime.ps ktime.r rtime.Post {A = Frame × ℕ × List ℕ × List ℕ}
      (λ κs a x e. (a.0, a.1.0, a.1.1.0.now, x.now)) (f, t, s, m)

  -- beside a frame's fields stand its data and its time
  abbrev pub format : Format Frame (List ℕ × List ℕ) FrameRead
  format =
      record {
        wrong = λ f b. fields_wrong f t (length b.0) (length b.1);
        octets = λ f b. frame_octets f t b.0 b.1;
        accepting = Ok;
        Writes = Writes;
        Reads = Reads;
        Finds = λ f s b. FindsData f s b.0 × FindsTime f s b.1;
      }

  -- what the contracts say
  writes : {f : Frame} {b : List ℕ × List ℕ} {out : List ℕ} {r : Written} {out' : List ℕ} → Writes f b out r out'
      → WroteFrame f t b.0 b.1 out r out'
  writes c = of_call c (λ x. WroteFrame x.0 x.1 x.2 x.3 x.4 x.5 x.6) (λ κs a x s p. p)

  reads : {s : List ℕ} {q : FrameRead} → Reads s q → told q ≡ read_frame t s
  reads c = of_call c (λ x. told x.2 ≡ read_frame x.0 x.1) (λ κs a x s p. p)

  finds_data : {f : Frame} {s d : List ℕ} → FindsData f s d → d ≡ data_of f s
  finds_data c = of_call c (λ x. x.2 ≡ data_of x.0 x.1) (λ κs a x s p. p)

  finds-time : {f : Frame} {s m : List ℕ} → FindsTime f s m → m ≡ time_of f t s
  finds-time c = of_call c (λ x. x.3 ≡ time_of x.0 x.1 x.2) (λ κs a x s p. p)

  finds : {f : Frame} {s : List ℕ} {b : List ℕ × List ℕ} → FindsData f s b.0 × FindsTime f s b.1 → b ≡ (data_of f s, time_of f t s)
  finds {f} {s} {b} c =
      let same : ◌≡◌ {A = List ℕ × List ℕ} (b.0, b.1) (data_of f s, time_of f t s) = simp (finds_data c.0, finds-time c.1) in
      same

  defined : Defined format
  defined =
      record {
        told = told;
        reading = read_frame t;
        beside = λ f s. (data_of f s, time_of f t s);
        writes = writes;
        reads = reads;
        finds = finds;
        tells = λ f. refl;
        apart = told_apart;
        reads-back = λ f b right. let k = reads-back f t b.0 b.1 right in (k.fields, simp (k.«data», k.time));
        writes-back = λ s f octet h. let k = writes-back t s f octet h in (k.accepts, k.octets);
      }

  pub calls_back : CallsBack format
  calls_back = back.calls_back format defined
