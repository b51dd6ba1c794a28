-- The images of which lines came, in a list of places: an image is held as one more than its number, and 0 is a free place.
use Rattle.std.specs.Prelude.{ℕ, suc, ◌+◌, ◌-◌, ◌≡◌, List, [], ◌∷◌, ◌++◌, Bool, false, ◌||◌, eqb, replicate}
use Rattle.octets.specs.Pick.{pick}

-- The images that the places hold, up to the first free one.
unfoldable pub images_in : List ℕ → List ℕ
images_in [] = []
images_in (place ∷ places) = pick (eqb place 0) [] ((place - 1) ∷ images_in places)

-- An image is put at the first free place, unless a place before it holds the image.
unfoldable pub noted : List ℕ → ℕ → List ℕ
noted [] image = []
noted (place ∷ places) image =
    pick (eqb place 0) ((image + 1) ∷ places) (pick (eqb place (image + 1)) (place ∷ places) (place ∷ noted places image))

-- ---- what that comes to

-- These images, each as one more than its number, with so many free places behind them.
abbrev pub holding : List ℕ → ℕ → List ℕ
holding [] free = replicate free 0
holding (image ∷ images) free = (image + 1) ∷ holding images free

-- Whether a number is one of these.
abbrev pub among : ℕ → List ℕ → Bool
among n [] = false
among n (x ∷ xs) = eqb x n || among n xs

-- An image that came is held once, behind those that came before it; and what is held is what is told.
pub record NotesOnce : Type 0 where
  pub notes : (images : List ℕ) (free image : ℕ) → noted (holding images (suc free)) image
      ≡ pick (among image images) (holding images (suc free)) (holding (images ++ (image ∷ [])) free)
  pub tells : (images : List ℕ) (free : ℕ) → images_in (holding images free) ≡ images
