-- One frame: what the session makes of its octets, and what is expected of it.
use mathlib.Core.Path.{◌≡◌, refl, sym, ap, ◌∙◌}
use mathlib.Core.List.{List, [], ◌∷◌, ◌++◌, append_assoc, append-nil}
use mathlib.Core.Bool.{true, false}
use Prim.Native.Nat.{ℕ, zero, suc, ◌+◌, ◌≤◌, ◌<◌}
use native.Mathlib.Omega.{arith}
use lib.ListN.{length, get_or, take, drop, length-append, replicate}
use Rattle.rules.specs.Channel.{held_of, Held, nothing, begun_in, grown, Handed, given, unfinished, whole, standing, sixth, push, feed}
use Rattle.rules.specs.Channel.{holding}
use Rattle.rules.specs.Packets.{Good, AllGood, joined}
use Rattle.sender.proofs.Sending.{rest_after, packets_after}
use Rattle.about_delivery.specs.Link.{Fate}
use Rattle.about_delivery.specs.Expected.{arrival_of, arrived, nowhere, expected_from}
use Rattle.rules.proofs.Standing.{standing-whole, standing-unfinished}
use Rattle.about_delivery.proofs.Walk.{walk, begin}

-- The packet p, begun in frame i, in which h is sent and r is not: `ok` says that its frames arrived so far.
pub record Part (ss : List Fate) (ok : Type 0) (k i : ℕ) (h : Held) (rest p : List ℕ) : Type 0 where
  pub all : h.octets ++ rest ≡ p
  pub some : 0 < length h.octets
  pub good : Good p
  pub begun : i ≤ k
  pub arrives : ok
  pub first : h.first ≡ arrival_of (get_or ss i nowhere)

abbrev pub Begun : List Fate → Type 0 → ℕ → ℕ → Held → List ℕ → List ℕ → Type 0
Begun ss ok k i h [] p = h ≡ nothing
Begun ss ok k i h (x ∷ r) p = Part ss ok k i h (x ∷ r) p

pub begun-some : (a first n : ℕ) → 0 < n → begun_in a first n ≡ first
begun-some a first zero h = absurd (omega arith)
begun-some a first (suc n) h = refl

-- A frame k that arrived under the number a, in step: n octets more
module _ (ss : List Fate) (k a : ℕ) (arr : arrival_of (get_or ss k nowhere) ≡ a) (own : List ℕ) where
  pub record Taken (n : ℕ) (h : Held) (r : List ℕ) (ps : List (List ℕ)) (acc : List Handed) (m i : ℕ) (p : List ℕ) : Type 0 where
    pub out : List Handed
    pub held : Held
    pub start : ℕ
    pub packet : List ℕ
    pub headers : ℕ
    pub fed : feed a (holding h acc m) (take n (r ++ joined ps)) ≡ holding held (acc ++ out) headers
    pub same : walk ss i p r ps (replicate (length (take n (r ++ joined ps))) k ++ own)
        ≡ out ++ walk ss start packet (rest_after n r ps) (packets_after n r ps) own
    pub begins : Begun ss (arrived ss start k ≡ true) k start held (rest_after n r ps) packet
    pub good : AllGood (packets_after n r ps)

  abbrev Takes : ℕ → Type 0
  Takes n = (h : Held) (r : List ℕ) (ps : List (List ℕ)) (acc : List Handed) (m i : ℕ) (p : List ℕ) → AllGood ps
      → Begun ss (arrived ss i k ≡ true) k i h r p → Taken n h r ps acc m i p

  -- an octet that is not its packet's last; and one that is
  take_more : (n : ℕ) → Takes n → (h : Held) (x y : ℕ) (r : List ℕ) (ps : List (List ℕ)) (acc : List Handed) (m i : ℕ) (p : List ℕ)
      → AllGood ps
      → h.octets ++ x ∷ y ∷ r ≡ p → Good p → i ≤ k → arrived ss i k ≡ true → begun_in a h.first (length h.octets) ≡ arrival_of
      (get_or ss i nowhere)
      → Taken (suc n) h (x ∷ y ∷ r) ps acc m i p
  unfolding push
  take_more n rec h x y r ps acc m i p gs e g l ok fi =
      let h' : List ℕ = h.octets ++ x ∷ [] in
      let e' : h' ++ y ∷ r ≡ p = append_assoc h.octets (x ∷ []) (y ∷ r) ∙ e in
      let st : standing h' ≡ unfinished = standing-unfinished h' (y ∷ r) p e' g (omega arith) in
      let len : length h' ≡ length h.octets + 1 = length-append h.octets (x ∷ []) in
      let t : Taken n (grown a h x) (y ∷ r) ps acc (sixth h.octets m) i p = rec (grown a h x) (y ∷ r) ps acc (sixth h.octets m) i p gs
      (record { all = e'; some = omega arith; good = g; begun = l; arrives = ok; first = fi }) in
      record {
        out = t.out;
        held = t.held;
        start = t.start;
        packet = t.packet;
        headers = t.headers;
        fed = rw st t.fed;
        same = t.same;
        begins = t.begins;
        good = t.good;
      }

  take_last : (n : ℕ) → Takes n → (h : Held) (x : ℕ) (ps : List (List ℕ)) (acc : List Handed) (m i : ℕ) (p : List ℕ) → AllGood ps
      → h.octets ++ x ∷ [] ≡ p → Good p → i ≤ k → arrived ss i k ≡ true → begun_in a h.first (length h.octets) ≡ arrival_of
      (get_or ss i nowhere)
      → Taken (suc n) h (x ∷ []) ps acc m i p
  unfolding push
  take_last n rec h x ps acc m i p gs e g l ok fi =
      let h' : List ℕ = h.octets ++ x ∷ [] in
      let g' : Handed = given a (grown a h x) in
      let st : standing h' ≡ whole = standing-whole h' [] p (append-nil h' ∙ e) g refl in
      let t : Taken n nothing [] ps (acc ++ g' ∷ []) (sixth h.octets m) i p = rec nothing [] ps (acc ++ g' ∷ [])
      (sixth h.octets m) i p gs refl in
      let is : given a (held_of (arrival_of (get_or ss i nowhere)) p) ≡ g' = rw (← e, ← fi) in
      record {
        out = g' ∷ t.out;
        held = t.held;
        start = t.start;
        packet = t.packet;
        headers = t.headers;
        fed = rw st (t.fed ∙ ap (λ (qs : List Handed). holding t.held qs t.headers) (append_assoc acc (g' ∷ []) t.out));
        same = rw (ok, arr)
            (ap (λ (d : Handed). d ∷ expected_from ss ps (replicate (length (take n (joined ps))) k ++ own)) is
            ∙ ap (λ (l : List Handed). g' ∷ l) t.same);
        begins = t.begins;
        good = t.good;
      }

  take-octet : (n : ℕ) → Takes n → (h : Held) (x : ℕ) (r : List ℕ) (ps : List (List ℕ)) (acc : List Handed) (m i : ℕ) (p : List ℕ)
      → AllGood ps
      → h.octets ++ x ∷ r ≡ p → Good p → i ≤ k → arrived ss i k ≡ true → begun_in a h.first (length h.octets) ≡ arrival_of
      (get_or ss i nowhere)
      → Taken (suc n) h (x ∷ r) ps acc m i p
  take-octet n rec h x [] ps acc m i p gs e g l ok fi = take_last n rec h x ps acc m i p gs e g l ok fi
  take-octet n rec h x (y ∷ r) ps acc m i p gs e g l ok fi = take_more n rec h x y r ps acc m i p gs e g l ok fi

  none : (n : ℕ) (h : Held) (r : List ℕ) (ps : List (List ℕ)) (acc : List Handed) (m i : ℕ) (p : List ℕ) → AllGood ps
      → Begun ss (arrived ss i k ≡ true) k i h r p → Taken 0 h r ps acc m i p
  none n h r ps acc m i p gs b = record {
    out = [];
    held = h;
    start = i;
    packet = p;
    headers = m;
    fed = ap (λ (qs : List Handed). holding h qs m) (sym (append-nil acc));
    same = refl;
    begins = b;
    good = gs;
  }

  pub takes : arrived ss k k ≡ true → (n : ℕ) → Takes n
  takes here zero h r ps acc m i p gs b = none 0 h r ps acc m i p gs b
  takes here (suc n) h (x ∷ r) ps acc m i p gs b =
      take-octet n (takes here n) h x r ps acc m i p gs b.all b.good b.begun b.arrives
      (begun-some a h.first (length h.octets) b.some ∙ b.first)
  takes here (suc n) h [] [] acc m i p gs b = record {
    out = [];
    held = h;
    start = i;
    packet = p;
    headers = m;
    fed = ap (λ (qs : List Handed). holding h qs m) (sym (append-nil acc));
    same = refl;
    begins = b;
    good = gs;
  }
  takes here (suc n) h [] ([] ∷ ps) acc m i p gs b = absurd (omega (arith, gs.0.least))
  takes here (suc n) h [] ((x ∷ q) ∷ ps) acc m i p gs b =
      let t : Taken (suc n) nothing (x ∷ q) ps acc m k (x ∷ q) =
      take-octet n (takes here n) nothing x q ps acc m k (x ∷ q) gs.1 refl gs.0 (omega arith) here (sym arr) in
      record {
        out = t.out;
        held = t.held;
        start = t.start;
        packet = t.packet;
        headers = t.headers;
        fed = rw b t.fed;
        same = begin ss x q ps k (replicate (length (take n (q ++ joined ps))) k ++ own) ∙ t.same;
        begins = t.begins;
        good = t.good;
      }

-- A frame k of which nothing can be handed out of a packet begun before: it was lost, or the channel is out of step.
-- the begun packet has lost a frame
pub record Broken (ss : List Fate) (k i : ℕ) : Type 0 where
  pub begun : i ≤ k
  pub missed : arrived ss i k ≡ false

abbrev pub Missed : List Fate → ℕ → ℕ → List ℕ → Type 0
Missed ss k i [] = Unit {0}
Missed ss k i (x ∷ r) = Broken ss k i

-- a header starts behind r: what is left of n octets from there on
abbrev pub left : ℕ → List ℕ → ℕ
left n [] = n
left zero (x ∷ r) = 0
left (suc n) (x ∷ r) = left n r

module _ (ss : List Fate) (k : ℕ) (own : List ℕ) where
  missed_tail : (i x : ℕ) (r : List ℕ) → Missed ss k i (x ∷ r) → Missed ss k i r
  missed_tail i x [] m = tt
  missed_tail i x (y ∷ r) m = m

  -- an octet of a packet that has lost a frame
  skip-octet : (i : ℕ) (p : List ℕ) (x : ℕ) (r : List ℕ) (ps : List (List ℕ)) (o : List ℕ) → Missed ss k i (x ∷ r)
      → walk ss i p (x ∷ r) ps (k ∷ o) ≡ walk ss i p r ps o
  skip-octet i p x [] ps o m = rw m.missed
  skip-octet i p x (y ∷ r) ps o m = refl

  -- no header starts in the frame
  pub skip_all : (n : ℕ) (i : ℕ) (p r : List ℕ) (ps : List (List ℕ)) → AllGood ps → Missed ss k i r
      → length (take n (r ++ joined ps)) ≤ length r
      → walk ss i p r ps (replicate (length (take n (r ++ joined ps))) k ++ own) ≡ walk ss i p (rest_after n r ps) (packets_after n r ps) own
  skip_all zero i p r ps gs m l = refl
  skip_all (suc n) i p [] [] gs m l = refl
  skip_all (suc n) i p [] ([] ∷ ps) gs m l = absurd (omega (arith, gs.0.least))
  skip_all (suc n) i p [] ((x ∷ q) ∷ ps) gs m l = absurd (omega arith)
  skip_all (suc n) i p (x ∷ r) ps gs m l =
      skip-octet i p x r ps (replicate (length (take n (r ++ joined ps))) k ++ own) m
      ∙ skip_all n i p r ps gs (missed_tail i x r m) (omega arith)

  pub missed_all : (n : ℕ) (i : ℕ) (r : List ℕ) (ps : List (List ℕ)) → AllGood ps → Missed ss k i r
      → length (take n (r ++ joined ps)) ≤ length r → Missed ss k i (rest_after n r ps) × AllGood (packets_after n r ps)
  missed_all zero i r ps gs m l = (m, gs)
  missed_all (suc n) i [] [] gs m l = (tt, tt)
  missed_all (suc n) i [] ([] ∷ ps) gs m l = absurd (omega (arith, gs.0.least))
  missed_all (suc n) i [] ((x ∷ q) ∷ ps) gs m l = absurd (omega arith)
  missed_all (suc n) i (x ∷ r) ps gs m l = missed_all n i r ps gs (missed_tail i x r m) (omega arith)

  -- a header starts in the frame
  pub record Skipped (n i : ℕ) (p r : List ℕ) (ps : List (List ℕ)) : Type 0 where
    pub dropped : drop (length r) (take n (r ++ joined ps)) ≡ take (left n r) (joined ps)
    pub rest : rest_after n r ps ≡ rest_after (left n r) [] ps
    pub packets : packets_after n r ps ≡ packets_after (left n r) [] ps
    pub same : walk ss i p r ps (replicate (length (take n (r ++ joined ps))) k ++ own)
        ≡ walk ss i p [] ps (replicate (length (take (left n r) (joined ps))) k ++ own)

  pub skip-to : (n i : ℕ) (p r : List ℕ) (ps : List (List ℕ)) → Missed ss k i r
      → length r < length (take n (r ++ joined ps)) → Skipped n i p r ps
  skip-to n i p [] ps m l = record { dropped = refl; rest = refl; packets = refl; same = refl }
  skip-to zero i p (x ∷ r) ps m l = absurd (omega arith)
  skip-to (suc n) i p (x ∷ r) ps m l =
      let t : Skipped n i p r ps = skip-to n i p r ps (missed_tail i x r m) (omega arith) in
      record {
        dropped = t.dropped;
        rest = t.rest;
        packets = t.packets;
        same = skip-octet i p x r ps (replicate (length (take n (r ++ joined ps))) k ++ own) m ∙ t.same;
      }

  -- a lost frame
  pub record Gone (n i : ℕ) (p r : List ℕ) (ps : List (List ℕ)) : Type 0 where
    pub start : ℕ
    pub packet : List ℕ
    pub same : walk ss i p r ps (replicate (length (take n (r ++ joined ps))) k ++ own)
        ≡ walk ss start packet (rest_after n r ps) (packets_after n r ps) own
    pub missed : Missed ss k start (rest_after n r ps)
    pub good : AllGood (packets_after n r ps)

  pub gone : arrived ss k k ≡ false → (n i : ℕ) (p r : List ℕ) (ps : List (List ℕ)) → AllGood ps → Missed ss k i r → Gone n i p r ps
  gone here zero i p r ps gs m = record { start = i; packet = p; same = refl; missed = m; good = gs }
  gone here (suc n) i p [] [] gs m = record { start = i; packet = p; same = refl; missed = tt; good = tt }
  gone here (suc n) i p [] ([] ∷ ps) gs m = absurd (omega (arith, gs.0.least))
  gone here (suc n) i p [] ((x ∷ q) ∷ ps) gs m =
      let m' : Missed ss k k (x ∷ q) = record { begun = omega arith; missed = here } in
      let t : Gone n k (x ∷ q) q ps = gone here n k (x ∷ q) q ps gs.1 (missed_tail k x q m') in
      let o = replicate (length (take n (q ++ joined ps))) k ++ own in
      record {
        start = t.start;
        packet = t.packet;
        missed = t.missed;
        good = t.good;
        same = begin ss x q ps k o ∙ skip-octet k (x ∷ q) x q ps o m' ∙ t.same;
      }
  gone here (suc n) i p (x ∷ r) ps gs m =
      let t : Gone n i p r ps = gone here n i p r ps gs (missed_tail i x r m) in
      record {
        start = t.start;
        packet = t.packet;
        missed = t.missed;
        good = t.good;
        same = skip-octet i p x r ps (replicate (length (take n (r ++ joined ps))) k ++ own) m ∙ t.same;
      }
