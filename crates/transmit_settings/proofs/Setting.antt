-- Laws of the settings, from what the code's calls and tests told.
use Rattle.std.proofs.Common.{◌≡◌, ℕ, ◌%◌, ◌<◌, ◌≤◌, Bool, true, false, ◌||◌, ltb, List, length, get_or, set, sym, refl}
use Rattle.std.proofs.Common.{ap, ◌∙◌, mod-eq_of_lt, arith, ltb-false, le-ltb, lt-ltb}
use lib.ListN.{get_or-eq_default}
use Rattle.octets.specs.Numbers.{at}
use Rattle.octets.specs.Pick.{pick}
use Rattle.octets.specs.Same.{same}
use Rattle.octets.proofs.Choices.{picked, passed, picks, through}
use Rattle.octets.proofs.Tests.{or_right}
use Rattle.frame.specs.declared.Address.{Address}
use Rattle.sender.specs.declared.Sent.{Sent}
use Rattle.words.specs.Octets.{hex_left, hex_count}
use Rattle.words.specs.Words.{space, word_of, rest_of, number_of}
use Rattle.transmit_settings.specs.State.{row, more, with_common, with_counts, with_stamp, with_master, with_made, count_of, with_count}
use Rattle.transmit_settings.specs.State.{after_sent, from_source, to_destination}
use Rattle.transmit_settings.specs.Setting.{stopped, going, source_word, destination_word, time_word, up_to, address_of, address_wrong}
use Rattle.transmit_settings.specs.Setting.{set_address, set_time, set_number, observed, setting}
use Rattle.transmit_settings.specs.declared.Fault.TheVariants.{Value}
use Rattle.transmit_settings.specs.declared.Row.{Row}
use Rattle.transmit_settings.specs.declared.State.{State}
use Rattle.transmit_settings.specs.declared.Stepped.{Stepped}

pub row_is : {a b x y : ℕ} → a ≡ x → b ≡ y → row a b ≡ row x y
row_is p q = cc

module _ (s : State) where
  module _ (v : ℕ) (e : v ≡ s.common.channel) where
    pub channel-count : length s.counts ≡ 8 → at s.counts v ≡ count_of s
    unfolding count_of
    channel-count l =
        ap (at s.counts) e
        ∙ picks (λ (x : ℕ). at s.counts s.common.channel ≡ x) (ltb s.common.channel 8) (at s.counts s.common.channel) 0 (λ _. refl)
        (λ h. let k : length s.counts ≤ s.common.channel = omega (arith, ltb-false s.common.channel 8 h, l) in get_or-eq_default s.counts 0 k)

  module _ (count v : ℕ) (e : v ≡ s.common.channel) where
    pub channel-counted : v < 8 → with_counts s (set s.counts v count) ≡ with_count s count
    unfolding with_count
    channel-counted l =
        ap (λ (x : ℕ). with_counts s (set s.counts x count)) e
        ∙ picked _ _ _ (lt-ltb s.common.channel 8 (omega (arith, e)))

    pub no_channel_counted : 8 ≤ v → s ≡ with_count s count
    unfolding with_count
    no_channel_counted l = passed _ _ _ _ (le-ltb s.common.channel 8 (omega (arith, e))) refl

  pub sent_is : (t : Sent) (next : State) (made : Row) → next ≡ with_count s t.count.0 → made ≡ more s.made t.octets t.frames
      → with_made (with_master next t.master.0) made ≡ after_sent s t
  unfolding after_sent
  sent_is t next made p q =
      ap (λ (x : State). with_made (with_master x t.master.0) made) p
      ∙ ap (λ (x : Row). with_made (with_master (with_count s t.count.0) t.master.0) x) q

-- a character of a callsign
pub address_is : (s : List ℕ) (ssid : ℕ) {a b c d e f : ℕ} → a ≡ get_or s 0 space → b ≡ get_or s 1 space → c ≡ get_or s 2 space
    → d ≡ get_or s 3 space
    → e ≡ get_or s 4 space → f ≡ get_or s 5 space
    → ◌≡◌ {A = Address} (record { callsign = record { 0 = a; 1 = b; 2 = c; 3 = d; 4 = e; 5 = f }; ssid = ssid }) (address_of s ssid)
address_is s ssid p q r t u v = simp (p, q, r, t, u, v)

-- a number that an octet holds, where it is taken
pub narrow : (n : ℕ) (s : State) (f : ℕ → State) → up_to 255 n s (f (n % 256)) ≡ up_to 255 n s (f n)
unfolding up_to
narrow n s f =
    picks (λ (x : Stepped). x ≡ pick (ltb 255 n) (stopped s Value) (going (f n))) (ltb 255 n) (stopped s Value) (going (f (n % 256)))
    (λ h. picked _ _ _ h)
    (λ h. passed _ _ _ _ h (ap (λ (x : ℕ). going (f x)) (mod-eq_of_lt (omega (arith, ltb-false 255 n h)))))

-- a word that was compared is the one, or the next ones decide
pub here : {A : Type 0} {r b : Bool} (x y : A) {z : A} → r ≡ b → r ≡ true → z ≡ x → z ≡ pick b x y
here x y p h e = e ∙ picked _ x y (through p h)

pub past : {A : Type 0} {r b : Bool} (x y : A) {z : A} → r ≡ b → r ≡ false → z ≡ y → z ≡ pick b x y
past x y p h e = passed _ x y _ (through p h) e

-- an address
module _ (value : List ℕ) {cs rs : List ℕ} {n : ℕ} (p : cs ≡ word_of value) (q : rs ≡ rest_of value) (e : n ≡ number_of rs) where
  number_is : n ≡ number_of (rest_of value)
  number_is = e ∙ ap number_of q

  pub wrong-is : {b : Bool} → (ltb 6 (length cs) || ltb 255 n) ≡ b → address_wrong value ≡ b
  unfolding address_wrong
  wrong-is h =
      sym (ap (λ (x : List ℕ). ltb 6 (length x) || ltb 255 n) p ∙ ap (λ (x : ℕ). ltb 6 (length (word_of value)) || ltb 255 x) number_is) ∙ h

  pub given_is : {a : Address} → a ≡ address_of cs n → a ≡ address_of (word_of value) (number_of (rest_of value))
  given_is g = g ∙ ap (λ (x : List ℕ). address_of x n) p ∙ ap (address_of (word_of value)) number_is

  module _ (s : State) (word : List ℕ) {r : Stepped} where
    pub no_address : (ltb 6 (length cs) || ltb 255 n) ≡ true → r ≡ stopped s Value → r ≡ set_address s word value
    unfolding set_address
    no_address h g = g ∙ picked _ _ _ (wrong-is h)

    module _ (h : (ltb 6 (length cs) || ltb 255 n) ≡ false) {a : Address} (g : a ≡ address_of cs n) {b : Bool}
        (t : b ≡ same word source_word) where
      pub source-set : b ≡ true → r ≡ going (with_common s (from_source s.common a)) → r ≡ set_address s word value
      unfolding set_address
      source-set k f =
          passed _ _ _ _ (wrong-is h)
          (f ∙ ap (λ (x : Address). going (with_common s (from_source s.common x))) (given_is g) ∙ ap going (picked _ _ _ (through t k)))

      pub destination-set : b ≡ false → r ≡ going (with_common s (to_destination s.common a)) → r ≡ set_address s word value
      unfolding set_address
      destination-set k f =
          passed _ _ _ _ (wrong-is h)
          (f ∙ ap (λ (x : Address). going (with_common s (to_destination s.common x))) (given_is g)
          ∙ ap going (passed _ _ _ _ (through t k) refl))

pub ssid-fits : (a : Bool) (n : ℕ) → (a || ltb 255 n) ≡ false → n ≤ 255
ssid-fits a n h = ltb-false 255 n (or_right a (ltb 255 n) h)

-- the time's octets
pub time-set : (s : State) (value : List ℕ) (room room' n : ℕ) {r : Stepped} → n ≡ hex_count value room → room' ≡ room
    → r ≡ up_to room' n s (with_stamp s n) → r ≡ set_time s value room
unfolding set_time
time-set s value room room' n p q e =
    e ∙ ap (λ (x : ℕ). up_to x n s (with_stamp s n)) q ∙ ap (λ (x : ℕ). up_to room x s (with_stamp s x)) p

-- a setting
module _ (s : State) (word value stamp : List ℕ) {d o : Bool} (p : d ≡ same word destination_word) (q : o ≡ same word source_word) where
  either : {b : Bool} → (d || o) ≡ b → (same word destination_word || same word source_word) ≡ b
  either h = sym (ap (λ (x : Bool). x || o) p ∙ ap (λ (x : Bool). same word destination_word || x) q) ∙ h

  pub set-address : (d || o) ≡ true → {r : Stepped} → r ≡ set_address s word value → observed r stamp ≡ setting s word value stamp
  unfolding setting
  set-address h e = ap (λ (x : Stepped). observed x stamp) e ∙ picked _ _ _ (either h)

  module _ (h : (d || o) ≡ false) {b : Bool} (t : b ≡ same word time_word) {r : Stepped} where
    pub set-time : b ≡ true → {stamp' : List ℕ} → r ≡ set_time s value (length stamp) → stamp' ≡ hex_left value stamp
        → observed r stamp' ≡ setting s word value stamp
    unfolding setting
    set-time k {stamp'} e l =
        passed _ _ _ _ (either h)
        (here _ _ t k (ap (λ (x : Stepped). observed x stamp') e ∙ ap (λ (x : List ℕ). observed (set_time s value (length stamp)) x) l))

    pub set-number : b ≡ false → {n : ℕ} → n ≡ number_of value → r ≡ set_number s word n → observed r stamp ≡ setting s word value stamp
    unfolding setting
    set-number k {n} m e =
        passed _ _ _ _ (either h) (past _ _ t k (ap (λ (x : Stepped). observed x stamp) (e ∙ ap (set_number s word) m)))
