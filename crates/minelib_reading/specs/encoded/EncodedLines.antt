-- Lines that encode the items of a list, and the first line that encodes none.
use Rattle.std.specs.Prelude.{◌≡◌, ℕ, ◌+◌, List, [], ◌∷◌, ◌++◌, length}
use Rattle.text_lines.specs.TextLines.{Line}

-- one line for each item, in order, by a rule for how a text encodes the item with a number; the first item has number n
abbrev pub AreLines : {A : Type 0} → (ℕ → List ℕ → A → Type 0) → ℕ → List Line → List A → Type 0
AreLines Encodes n [] [] = Unit {0}
AreLines Encodes n [] (item ∷ items) = ⊥
AreLines Encodes n (line ∷ lines) [] = ⊥
AreLines Encodes n (line ∷ lines) (item ∷ items) =
    Encodes n line.text item × AreLines Encodes (n + 1) lines items

-- the lines before this number encode items, and its line encodes no next item
pub record IsFirstInvalidLine {A : Type 0} (Encodes : ℕ → List ℕ → A → Type 0) (lines : List Line) (number : ℕ) : Type 0 where
  pub before : List Line
  pub bad : Line
  pub following : List Line
  pub cut : lines ≡ before ++ bad ∷ following
  pub place : number ≡ bad.number
  pub items : List A
  pub encoded : AreLines Encodes 0 before items
  pub encodes_none : (item : A) → ¬ (Encodes (length items) bad.text item)
