-- The line that tells which images' lines were received where no line of the wanted one was, behind the program's name, as ASCII codes.
use Rattle.std.specs.Prelude.{ℕ, ◌+◌, ◌-◌, ◌*◌, ◌%◌, ◌^◌, ◌≤◌, ◌≡◌, List, [], ◌∷◌, ◌++◌, eqb, ltb, length, take}
use Rattle.octets.specs.Pick.{pick}
use Rattle.decimal.specs.Text.{decimal}
use Rattle.picture_images.specs.Noted.{images_in}

-- ": no image line was received at all\n"
abbrev pub at_all : List ℕ
at_all =
    58 ∷ 32 ∷ 110 ∷ 111 ∷ 32 ∷ 105 ∷ 109 ∷ 97 ∷ 103 ∷ 101 ∷ 32 ∷ 108 ∷ 105 ∷ 110 ∷ 101 ∷ 32 ∷ 119 ∷ 97 ∷ 115 ∷ 32 ∷ 114 ∷ 101
    ∷ 99 ∷ 101 ∷ 105 ∷ 118 ∷ 101 ∷ 100 ∷ 32 ∷ 97 ∷ 116 ∷ 32 ∷ 97 ∷ 108 ∷ 108 ∷ 10 ∷ []

-- ": no line of image "
abbrev pub no_line : List ℕ
no_line = 58 ∷ 32 ∷ 110 ∷ 111 ∷ 32 ∷ 108 ∷ 105 ∷ 110 ∷ 101 ∷ 32 ∷ 111 ∷ 102 ∷ 32 ∷ 105 ∷ 109 ∷ 97 ∷ 103 ∷ 101 ∷ 32 ∷ []

-- "was received; lines of image "
abbrev pub of_one : List ℕ
of_one =
    119 ∷ 97 ∷ 115 ∷ 32 ∷ 114 ∷ 101 ∷ 99 ∷ 101 ∷ 105 ∷ 118 ∷ 101 ∷ 100 ∷ 59 ∷ 32 ∷ 108 ∷ 105 ∷ 110 ∷ 101 ∷ 115 ∷ 32 ∷ 111 ∷ 102
    ∷ 32 ∷ 105 ∷ 109 ∷ 97 ∷ 103 ∷ 101 ∷ 32 ∷ []

-- "was received; lines of images "
abbrev pub of_many : List ℕ
of_many =
    119 ∷ 97 ∷ 115 ∷ 32 ∷ 114 ∷ 101 ∷ 99 ∷ 101 ∷ 105 ∷ 118 ∷ 101 ∷ 100 ∷ 59 ∷ 32 ∷ 108 ∷ 105 ∷ 110 ∷ 101 ∷ 115 ∷ 32 ∷ 111 ∷ 102
    ∷ 32 ∷ 105 ∷ 109 ∷ 97 ∷ 103 ∷ 101 ∷ 115 ∷ 32 ∷ []

-- "were\n"
abbrev pub were : List ℕ
were = 119 ∷ 101 ∷ 114 ∷ 101 ∷ 10 ∷ []

-- "and "
abbrev pub also : List ℕ
also = 97 ∷ 110 ∷ 100 ∷ 32 ∷ []

-- "more were\n"
abbrev pub more_were : List ℕ
more_were = 109 ∷ 111 ∷ 114 ∷ 101 ∷ 32 ∷ 119 ∷ 101 ∷ 114 ∷ 101 ∷ 10 ∷ []

-- What stands behind an image's number, by how many are told behind it: "were" and the line's end, "and", or a comma.
unfoldable pub behind_name : ℕ → List ℕ
behind_name k = pick (eqb k 0) (32 ∷ were) (pick (eqb k 1) (32 ∷ also) (44 ∷ 32 ∷ []))

unfoldable pub name_of : ℕ → ℕ → List ℕ
name_of image k = decimal image ++ behind_name k

-- The numbers of images, with so many told behind them all.
abbrev pub names_of : ℕ → List ℕ → List ℕ
names_of k [] = []
names_of k (image ∷ images) = name_of image (length images + k) ++ names_of k images

-- How many images are named at most.
abbrev pub most_named : ℕ
most_named = 16

-- All images; or the first of them, and how many more there are, a number of 32 bits.
unfoldable pub list_of : List ℕ → List ℕ
list_of images =
    pick (ltb most_named (length images))
    (names_of 1 (take most_named images) ++ (decimal ((length images - most_named) % 2 ^ 32) ++ (32 ∷ more_were))) (names_of 0 images)

-- What stands before them.
unfoldable pub head_of : ℕ → ℕ → List ℕ
head_of wanted n = no_line ++ (decimal wanted ++ (32 ∷ pick (eqb n 1) of_one of_many))

-- ": no line of image 8 was received; lines of images 7, 12 and 300 were\n".
unfoldable pub line_of : ℕ → List ℕ → List ℕ
line_of wanted images = pick (eqb (length images) 0) at_all (head_of wanted (length images) ++ list_of images)

-- The most octets that a name takes, that all names and how many more there are take, that stand before them, and that the line takes.
abbrev pub longest_name : ℕ
longest_name = 16

abbrev pub longest_list : ℕ
longest_list = 277

abbrev pub longest_head : ℕ
longest_head = 60

abbrev pub longest_line : ℕ
longest_line = 337

-- ---- what the private functions ask

-- So many images to name, and room for them.
pub record Names (out : List ℕ) (at : ℕ) (places : List ℕ) (named more : ℕ) : Type 0 where
  pub held : named ≤ length (images_in places)
  pub few : more ≤ 1
  pub room : at + longest_name * named ≤ length out

-- All of them, and room.
pub record Lists (out : List ℕ) (at : ℕ) (places : List ℕ) (n : ℕ) : Type 0 where
  pub all : n ≡ length (images_in places)
  pub room : at + longest_list ≤ length out
