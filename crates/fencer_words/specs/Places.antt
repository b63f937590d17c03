-- The places of gaps, as the value of `--fences` lists them, and the threads of `--same`.
use Rattle.std.specs.Prelude.{◌≡◌, ◌==◌, ◌≤◌, ◌&&◌, ℕ, Bool, List, [], ◌∷◌, Option, Some, None, All, map}
use Rattle.std.specs.List.{IsDistinct, slice_split}
use Rattle.std.specs.Fmt.{decimal}
use Rattle.clap.specs.Words.{Text}

-- where a gap lies: a thread, and the instruction after the gap
abbrev pub Place : Type 0
Place = ℕ × ℕ

-- the pieces of a text between which this byte stands
abbrev pub pieces : ℕ → Text → List Text
pieces mark text = slice_split (λ b. b == mark) text

-- the two numbers of a place
abbrev pub place_numbers : Place → List Text
place_numbers place = decimal place.0 ∷ decimal place.1 ∷ []

-- `t:k`
pub record IsPlaceText (text : Text) (place : Place) : Type 0 where
  pub thread : place.0 ≤ 255
  pub instruction : place.1 ≤ 255
  pub spelled : pieces 58 text ≡ place_numbers place

-- a text for each place
abbrev pub ArePlaceTexts : List Text → List Place → Type 0
ArePlaceTexts [] [] = Unit {0}
ArePlaceTexts [] (place ∷ places) = ⊥
ArePlaceTexts (text ∷ texts) [] = ⊥
ArePlaceTexts (text ∷ texts) (place ∷ places) = IsPlaceText text place × ArePlaceTexts texts places

-- both are the same place
abbrev pub is_same_place : Place → Place → Bool
is_same_place place other = (place.0 == other.0) && (place.1 == other.1)

-- the text lists the places, with commas between them, each once
pub record ListsPlaces (text : Text) (places : List Place) : Type 0 where
  pub spelled : ArePlaceTexts (pieces 44 text) places
  pub once : IsDistinct is_same_place places

-- the places of a text, where there is one; none without a text
abbrev pub AreGivenPlaces : Option Text → List Place → Type 0
AreGivenPlaces None places = places ≡ []
AreGivenPlaces (Some text) places = ListsPlaces text places

-- the texts are those of the threads' numbers
pub record AreThreadTexts (texts : List Text) (threads : List ℕ) : Type 0 where
  pub spelled : texts ≡ map decimal threads
  pub small : All (λ thread. thread ≤ 255) threads

-- the text lists the numbers of threads, with commas between them
abbrev pub ListsThreads : Text → List ℕ → Type 0
ListsThreads text threads = AreThreadTexts (pieces 44 text) threads

-- the threads of a text, where there is one
abbrev pub AreGivenThreads : Option Text → Option (List ℕ) → Type 0
AreGivenThreads None None = Unit {0}
AreGivenThreads None (Some threads) = ⊥
AreGivenThreads (Some text) None = ⊥
AreGivenThreads (Some text) (Some threads) = ListsThreads text threads

-- the text lists no threads
abbrev pub ListsNoThreads : Text → Type 0
ListsNoThreads text = (threads : List ℕ) → ListsThreads text threads → ⊥

-- the text lists no places
abbrev pub ListsNoPlaces : Text → Type 0
ListsNoPlaces text = (places : List Place) → ListsPlaces text places → ⊥
