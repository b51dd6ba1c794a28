-- The packets come back.
use Prim.Native.Nat.{ℕ, ◌+◌, ◌-◌, ◌*◌, ◌≤◌}
use mathlib.Core.Path.{◌≡◌, refl, sym, ap, subst, ◌∙◌}
use mathlib.Core.List.{List, [], ◌∷◌, map}
use mathlib.Core.Bool.{true}
use mathlib.Core.Option.{none}
use native.Mathlib.Omega.{arith}
use lib.ListN.{length, get_or, length-map}
use Rattle.rules.specs.Packets.{AllGood, joined}
use Rattle.stretch.specs.Stretch.{Stretch, found}
use Rattle.sender.specs.Sender.{Framed, sent_octets, pieces_of, Stream}
use Rattle.sender.specs.Frames.{Wanted, packets_of, full_frames, choices_of}
use Rattle.sender.specs.Calls as sender
use Rattle.sender.proofs.Numbered.{full-least, full-most}
use Rattle.sender.proofs.Accepted.{accepted, frames_by_lem}
use Rattle.sender.proofs.Calls.{calls_by_rules}
use Rattle.about_delivery.specs.Link.{Fate, Passing, passed, arriving, fates}
use Rattle.about_delivery.specs.Expected.{piece, all_got, owners, expected}
use Rattle.about_delivery.specs.Delivered.{Delivered}
use Rattle.about_delivery.specs.Run.{reports_of}
use Rattle.about_delivery.specs.Demand.{Reception}
use Rattle.about_delivery.proofs.NothingLost.{no_gaps}
use Rattle.about_delivery.proofs.OneChannel.{AllShort}
use Rattle.about_delivery.proofs.Recording.{fates-pieces, all_short, demand_3}
use Rattle.about_delivery.specs.Returned.{Made, frames_in, octets_in, Offered, Delivers, arrivals_of, all_back, GivesBack, ArrivalsBySize}
use Rattle.about_delivery.proofs.Arrivals.{all_arrive, no_strays, all-got, all_owned, owners-arrivals, Some, expected-back, by_size}

good-some : (ps : List (List ℕ)) → AllGood ps → Some ps
good-some [] g = tt
good-some (p ∷ ps) g = (omega (arith, g.0.least), good-some ps g.1)

rules : (m : Made) → sender.ByRules m.t m.calls
rules m = calls_by_rules m.t m.master m.counts m.calls m.small m.small_each m.handed_on

pub delivers : Delivers
delivers m link strays o v l gaps =
    let same : octets_in m ≡ map (sent_octets m.t) (frames_in m) = (rules m).octets in
    let offer : passed link (octets_in m) ≡ arriving m.t link (frames_in m) = ap (passed link) same in
    let reception : Reception =
    record {
      t = m.t;
      frames = frames_in m;
      sender = (rules m).sender;
      link = link;
      strays = strays;
      time_size = o.time_size;
      last = o.last;
      opened = o.opened;
      opens = o.opens;
      calls = o.calls;
      offers = o.offers ∙ offer;
      runs = o.runs;
      numbers = omega (arith, o.numbers, ap length offer);
      room = o.room;
    } in
    subst (λ (ps : List (List ℕ)). Delivered ps (fates v o.last link (frames_in m)) (reports_of v o.calls)) ((rules m).packets v l)
    (demand_3 reception v l gaps)

-- without loss, the same is offered
whole : (fs : List Framed) (xs : List (List ℕ)) → length xs ≡ length fs → map found xs ≡ passed (all_arrive fs) xs
whole [] [] e = refl
whole [] (x ∷ xs) e = absurd (omega arith)
whole (f ∷ fs) [] e = absurd (omega arith)
whole (f ∷ fs) (x ∷ xs) e = ap (λ (l : List Stretch). found x ∷ l) (whole fs xs (omega arith))

reoffered : {t : ℕ} {xs ys : List Stretch} → Offered t xs → xs ≡ ys → Offered t ys
reoffered o e =
    record {
      time_size = o.time_size;
      last = o.last;
      opened = o.opened;
      opens = o.opens;
      calls = o.calls;
      offers = o.offers ∙ e;
      runs = o.runs;
      numbers = omega (arith, o.numbers, ap length e);
      room = o.room;
    }

pub gives_back : GivesBack
unfolding reoffered
gives_back m o v l =
    let fs : List Framed = frames_in m in
    let link : List Passing = all_arrive fs in
    let ss : List Fate = fates v o.last link fs in
    let packets : List (List ℕ) = sender.packets_on v m.calls in
    let all : all_got ss ≡ true = all-got v o.last fs in
    let same : map found (octets_in m) ≡ passed link (octets_in m) =
    whole fs (octets_in m) (ap length (rules m).octets ∙ length-map fs (sent_octets m.t)) in
    let s : Stream v fs = (rules m).sender.streams v l in
    let own : s.packets ≡ packets = (rules m).packets v l in
    let pieces : map piece ss ≡ pieces_of v fs = fates-pieces v o.last link fs in
    let sent : length (joined s.packets) - 0 ≤ length (owners 0 ss) =
    all_owned s.packets ss s.choices 0 s.first 0 (pieces ∙ s.sent)
    (subst AllShort (sym pieces) (all_short m.t v fs (rules m).sender.well_formed))
    (omega (arith, (rules m).whole v l, ap (λ (ps : List (List ℕ)). length (joined ps)) own)) in
    (delivers m link (no_strays m.t fs) (reoffered o same) v l (no_gaps none ss all (omega arith))).handed_out_lem
    ∙ ap (λ (ps : List (List ℕ)). expected ps ss) (sym own)
    ∙ expected-back ss all s.packets (owners 0 ss) (good-some s.packets s.good) (omega arith)
    ∙ ap (all_back s.packets) (owners-arrivals v o.last fs)
    ∙ ap (λ (ps : List (List ℕ)). all_back ps (arrivals_of v o.last fs)) own

pub arrivals_by_size : ArrivalsBySize
unfolding choices_of
arrivals_by_size c h last j l =
    let w : Wanted = c.wanted in
    let a = accepted c h in
    let m : ℕ = length (joined (packets_of w)) in
    let full : ℕ = full_frames w.size m in
    let least : full * w.size ≤ m = full-least w.size m a.least in
    let most : m ≤ full * w.size + w.size = full-most w.size m a.least in
    ap (λ (fs : List Framed). get_or (arrivals_of w.common.channel last fs) j 0) (frames_by_lem w)
    ∙ by_size w.common w.time (packets_of w) w.size a.least (omega (arith, a.greatest)) full (m - full * w.size) last
    w.master 0 w.count j
    (omega arith) (omega arith) (omega arith)
