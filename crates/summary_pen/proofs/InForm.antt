-- What is told of one thing in each form, if there is something to tell.
use Prim.Native.Nat.{ℕ, ◌-◌}
use mathlib.Core.Path.{◌≡◌, sym, ap, ◌∙◌}
use mathlib.Core.Bool.{Bool, true, false}
use mathlib.Core.List.{List}
use Rattle.summary_count.specs.Count.{saturated}
use Rattle.summary_pen.specs.Page.{Page, Says}
use Rattle.summary_pen.specs.Words.{codes, told, row, pair, keyed, if_any}
use Rattle.summary_pen.specs.Form.{Form}
use Rattle.summary_pen.specs.Lines.{both, losses, channel_line, apid_line, image_line, as_text}
use Rattle.summary_pen.specs.Rows.{two, channel_rows, apid_rows, as_csv}
use Rattle.summary_pen.specs.Choice.{form}
use Rattle.summary_pen.proofs.Saying.{none, then, reads, none_said, any_said}

-- ---- by the form that is asked for

module _ {csv : Bool} (text : Form → List ℕ) {p q : Page} where
  pub as_csv_lem : csv ≡ true → Says (text as_csv) p q → Says (text (form csv)) p q
  as_csv_lem h s = reads (ap (λ (b : Bool). text (form b)) (sym h)) s

  pub as_text_lem : csv ≡ false → Says (text as_text) p q → Says (text (form csv)) p q
  as_text_lem h s = reads (ap (λ (b : Bool). text (form b)) (sym h)) s

module _ {csv : Bool} (n : ℕ) (text : Form → List ℕ) {p q : Page} where
  any_csv : csv ≡ true → (n ≡ 0 → ⊥) → Says (text as_csv) p q → Says (if_any n (text (form csv))) p q
  any_csv h g s = any_said n _ g (as_csv_lem text h s)

  any_text : csv ≡ false → (n ≡ 0 → ⊥) → Says (text as_text) p q → Says (if_any n (text (form csv))) p q
  any_text h g s = any_said n _ g (as_text_lem text h s)

pub begin_csv : {csv : Bool} {p q : Page} → csv ≡ true → Says (codes "subject,key,measure,value\n") p q → Says (form csv).begins p q
begin_csv h s = as_csv_lem (λ (f : Form). f.begins) h s

pub begin_text : {csv : Bool} {p : Page} → csv ≡ false → Says (form csv).begins p p
begin_text {p = p} h = as_text_lem (λ (f : Form). f.begins) h (none p)

-- ---- two kinds together

module _ (m n : ℕ) {all : ℕ} (e : all ≡ saturated m n) where
  pub none_of_both : (text : List ℕ) {p : Page} → all ≡ 0 → Says (if_any (saturated m n) text) p p
  none_of_both text h = none_said (saturated m n) text (sym e ∙ h)

  some_of_both : (all ≡ 0 → ⊥) → saturated m n ≡ 0 → ⊥
  some_of_both h z = h (e ∙ z)

  module _ {csv : Bool} {p q : Page} (some : all ≡ 0 → ⊥) where
    pub frames_csv : {r : Page} → csv ≡ true → Says (row (codes "frames,,accepted,") m) p q → Says (row (codes "frames,,refused,") n) q r
        → Says (if_any (saturated m n) ((form csv).frames m n)) p r
    unfolding two
    frames_csv h a b = any_csv (saturated m n) (λ (f : Form). f.frames m n) h (some_of_both some) (then a b)

    pub frames-text : csv ≡ false → Says (both (codes "frames ") (codes ": accepted ") (codes ", refused ") m n) p q
        → Says (if_any (saturated m n) ((form csv).frames m n)) p q
    frames-text h a = any_text (saturated m n) (λ (f : Form). f.frames m n) h (some_of_both some) a

    pub packets_csv : {r : Page} → csv ≡ true → Says (row (codes "packets,,read,") m) p q → Says (row (codes "packets,,turned away,") n) q r
        → Says (if_any (saturated m n) ((form csv).packets m n)) p r
    unfolding two
    packets_csv h a b = any_csv (saturated m n) (λ (f : Form). f.packets m n) h (some_of_both some) (then a b)

    pub packets-text : csv ≡ false → Says (both (codes "packets ") (codes ": read ") (codes ", turned away ") m n) p q
        → Says (if_any (saturated m n) ((form csv).packets m n)) p q
    packets-text h a = any_text (saturated m n) (λ (f : Form). f.packets m n) h (some_of_both some) a

    pub apid_csv : (i : ℕ) {r : Page} → csv ≡ true → Says (pair (codes "apid,") (codes ",missing,") i m) p q
        → Says (pair (codes "apid,") (codes ",restarted,") i n) q r → Says (if_any (saturated m n) ((form csv).apid i m n)) p r
    unfolding apid_rows
    apid_csv i h a b = any_csv (saturated m n) (λ (f : Form). f.apid i m n) h (some_of_both some) (then a b)

    pub apid-text : (i : ℕ) {r : Page} → csv ≡ false → Says (told (codes "APID ") i) p q
        → Says (pair (codes ": missing ") (codes ", restarted ") m n) q r → Says (if_any (saturated m n) ((form csv).apid i m n)) p r
    unfolding apid_line
    apid-text i h a b = any_text (saturated m n) (λ (f : Form). f.apid i m n) h (some_of_both some) (then a b)

-- ---- channels

module _ {csv : Bool} (i n lost unknown : ℕ) {p q r s : Page} (some : n ≡ 0 → ⊥) where
  pub channel_csv : csv ≡ true → Says (pair (codes "channel,") (codes ",frames,") i n) p q
      → Says (pair (codes "channel,") (codes ",lost,") i lost) q r → Says (pair (codes "channel,") (codes ",unknown,") i unknown) r s
      → Says (if_any n ((form csv).channel i n lost unknown)) p s
  unfolding channel_rows
  channel_csv h a b c = any_csv n (λ (f : Form). f.channel i n lost unknown) h some (then a (then b c))

  pub channel-text : csv ≡ false → Says (told (codes "channel ") i) p q → Says (told (codes ": frames ") n) q r
      → Says (losses (codes ", lost ") n lost unknown) r s → Says (if_any n ((form csv).channel i n lost unknown)) p s
  unfolding channel_line
  channel-text h a b c = any_text n (λ (f : Form). f.channel i n lost unknown) h some (then a (then b c))

module _ {csv : Bool} (accepted lost unknown : ℕ) {p q : Page} (some : accepted ≡ 0 → ⊥) where
  pub over_all_csv : {r : Page} → csv ≡ true → Says (row (codes "all,,lost,") lost) p q → Says (row (codes "all,,unknown,") unknown) q r
      → Says (if_any accepted ((form csv).over_all accepted lost unknown)) p r
  unfolding two
  over_all_csv h a b = any_csv accepted (λ (f : Form). f.over_all accepted lost unknown) h some (then a b)

  pub over-all-text : csv ≡ false → Says (losses (codes "all channels: lost ") accepted lost unknown) p q
      → Says (if_any accepted ((form csv).over_all accepted lost unknown)) p q
  over-all-text h a = any_text accepted (λ (f : Form). f.over_all accepted lost unknown) h some a

-- ---- a number

module _ {csv : Bool} (n : ℕ) {p q : Page} (some : n ≡ 0 → ⊥) where
  pub others_csv : csv ≡ true → Says (row (codes "packets,,other,") n) p q → Says (if_any n ((form csv).others n)) p q
  others_csv h a = any_csv n (λ (f : Form). f.others n) h some a

  pub others-text : csv ≡ false → Says (row (codes "other packets: ") n) p q → Says (if_any n ((form csv).others n)) p q
  others-text h a = any_text n (λ (f : Form). f.others n) h some a

  pub other_lines_csv : csv ≡ true → Says (row (codes "image,,other lines,") n) p q → Says (if_any n ((form csv).other_lines n)) p q
  other_lines_csv h a = any_csv n (λ (f : Form). f.other_lines n) h some a

  pub other-lines-text : csv ≡ false → Says (row (codes "lines of other images: ") n) p q → Says (if_any n ((form csv).other_lines n)) p q
  other-lines-text h a = any_text n (λ (f : Form). f.other_lines n) h some a

  pub bad_csv : csv ≡ true → Says (row (codes "recording,,bad,") n) p q → Says (if_any n ((form csv).bad n)) p q
  bad_csv h a = any_csv n (λ (f : Form). f.bad n) h some a

  pub bad-text : csv ≡ false → Says (codes "bad recording\n") p q → Says (if_any n ((form csv).bad n)) p q
  bad-text h a = any_text n (λ (f : Form). f.bad n) h some a

-- ---- images and keys

module _ {csv : Bool} (key lines : ℕ) {p q : Page} (some : key ≡ 0 → ⊥) where
  pub image_csv : csv ≡ true → Says (pair (codes "image,") (codes ",lines,") (key - 1) lines) p q
      → Says (if_any key ((form csv).image (key - 1) lines)) p q
  image_csv h a = any_csv key (λ (f : Form). f.image (key - 1) lines) h some a

  pub image-text : {r s : Page} → csv ≡ false → Says (told (codes "image ") (key - 1)) p q → Says (told (codes ": ") lines) q r
      → Says (codes " of 120 lines\n") r s → Says (if_any key ((form csv).image (key - 1) lines)) p s
  unfolding image_line
  image-text h a b c = any_text key (λ (f : Form). f.image (key - 1) lines) h some (then a (then b c))

module _ {csv : Bool} (key n : ℕ) {p q : Page} (some : n ≡ 0 → ⊥) where
  pub key_csv : csv ≡ true → Says (keyed (codes "packets,") (codes "/") (codes "/") (codes ",read,") key n) p q
      → Says (if_any n ((form csv).key key n)) p q
  key_csv h a = any_csv n (λ (f : Form). f.key key n) h some a

  pub key-text : csv ≡ false → Says (keyed (codes "APID ") (codes " (") (codes ",") (codes "): ") key n) p q
      → Says (if_any n ((form csv).key key n)) p q
  key-text h a = any_text n (λ (f : Form). f.key key n) h some a
