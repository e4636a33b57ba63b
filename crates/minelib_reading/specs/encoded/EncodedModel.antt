-- How the lines of a model file encode its content: the header's lines, and then the sections, each after the line of its key. And
-- the first line after which the lines cannot become a model.
use Rattle.std.specs.Prelude.{◌≡◌, ◌≢◌, ℕ, ◌+◌, true, false, List, [], ◌∷◌, ◌++◌, length, AllPairs, IsTrue, pos}
use Rattle.std.specs.List.{Contains}
use Rattle.pit_units.specs.EncodedNumbers.{EncodesBelow, EncodesInteger, EncodesNumber}
use Rattle.plan_parts.specs.Name.{is_name}
use Rattle.plan_parts.specs.PlanInvariant.{RiseStrictly, is_turned}
use Rattle.plan_parts.specs.declared.ranges.TheConstants.{MAX_BLOCKS, MAX_DESTINATIONS, MAX_PERIODS, MAX_RATE, MAX_RESOURCES}
use Rattle.mine_instance.specs.Order.{coef_before}
use Rattle.text_lines.specs.TextLines.{Line, fields_of, lines_in, end_of}
use Rattle.text_lines.specs.declared.text_fault.LineFault.{LineFault}
use Rattle.text_lines.specs.declared.text_fault.TextKind.TheVariants.{Missing}
use Rattle.minelib_lines.specs.HeaderKeys.{has_key, key_word, type_text}
use Rattle.minelib_lines.specs.StatedHeader.{StatedHeader}
use Rattle.minelib_lines.specs.declared.header_key.HeaderKey.{HeaderKey}
use Rattle.minelib_lines.specs.declared.header_key.HeaderKey.TheVariants as key
use Rattle.minelib_lines.specs.declared.problem.Problem.{Problem}
use Rattle.minelib_lines.specs.declared.problem.Problem.TheVariants.{Pcpsp, Cpit}
use Rattle.minelib_reading.specs.ModelKeys.{section_text}
use Rattle.minelib_reading.specs.StatedModel.{StatedModel}
use Rattle.minelib_reading.specs.declared.model.key.Section.TheVariants.{Objective, Coefs, Limits}
use Rattle.minelib_reading.specs.encoded.EncodedItems.{EncodesCoef, EncodesLimit, EncodesValues}
use Rattle.minelib_reading.specs.encoded.EncodedKeys.{IsKeyLine}
use Rattle.minelib_reading.specs.encoded.EncodedLines.{AreLines}

-- a CPIT has one destination
abbrev pub IsSingle : Problem → ℕ → Type 0
IsSingle Pcpsp destinations = Unit {0}
IsSingle Cpit destinations = destinations ≡ 1

-- the value of a header key encodes what the header states for the key, in a file of n blocks
abbrev pub EncodesKey : Problem → ℕ → StatedHeader → HeaderKey → List ℕ → Type 0
EncodesKey problem n h key.Name value = (value ≡ h.name) × (is_name value ≡ true)
EncodesKey problem n h key.Type value = value ≡ type_text problem
EncodesKey problem n h key.Blocks value = EncodesBelow (MAX_BLOCKS + 1) value n
EncodesKey problem n h key.Periods value = EncodesInteger 1 MAX_PERIODS value h.periods
EncodesKey problem n h key.Destinations value = EncodesInteger 1 MAX_DESTINATIONS value h.destinations
EncodesKey problem n h key.Resources value = EncodesBelow (MAX_RESOURCES + 1) value h.resources
EncodesKey problem n h key.General value = EncodesBelow 1 value 0
EncodesKey problem n h key.Rate value = EncodesNumber 6 (pos 0) MAX_RATE value h.rate

-- the line `KEY: value` of a header key
pub record IsHeaderLine (problem : Problem) (n : ℕ) (h : StatedHeader) (line : List ℕ)
    (k : HeaderKey) : Type 0 where
  pub value : List ℕ
  pub is_key : IsKeyLine (key_word k) line (value ∷ [])
  pub of_problem : IsTrue (has_key problem k)
  pub says : EncodesKey problem n h k value

-- one line for each header key of the problem, in any order
pub record AreHeaderLines (problem : Problem) (n : ℕ) (lines : List Line)
    (h : StatedHeader) : Type 0 where
  pub keys : List HeaderKey
  pub encoded : AreLines (λ _ line k. IsHeaderLine problem n h line k) 0 lines keys
  pub once : AllPairs (λ k j. k ≢ j) keys
  pub all : (k : HeaderKey) → IsTrue (has_key problem k) → Contains keys k

-- all lines of a model file of n blocks: the header's lines, and then three sections, each after the line of its key. The sections
-- are a line of values for each block, in order of identifier; the coefficients, which rise; and the limits, which rise and have no
-- interval with reversed ends
pub record AreModelLines (problem : Problem) (n : ℕ) (lines : List Line)
    (m : StatedModel) : Type 0 where
  pub heading : List Line
  pub objective : Line
  pub values : List Line
  pub coefficients : Line
  pub coefs : List Line
  pub resource_limits : Line
  pub limits : List Line
  pub cut : lines
      ≡ heading ++ (objective ∷ values ++ (coefficients ∷ coefs ++ (resource_limits ∷ limits)))
  pub destinations : IsSingle problem m.header.destinations
  pub encode_header : AreHeaderLines problem n heading m.header
  pub begin_values : IsKeyLine (section_text Objective) objective.text []
  pub encode_values :
      AreLines (λ block line vs. EncodesValues n m.header.destinations block (fields_of line) vs) 0 values m.values
  pub all_values : length m.values ≡ n
  pub begin_coefs : IsKeyLine (section_text Coefs) coefficients.text []
  pub encode_coefs :
      AreLines (λ _ line c. EncodesCoef problem n m.header.destinations m.header.resources (fields_of line) c) 0 coefs m.coefs
  pub rising_coefs : AllPairs (λ c e. IsTrue (coef_before c e)) m.coefs
  pub begin_limits : IsKeyLine (section_text Limits) resource_limits.text []
  pub encode_limits :
      AreLines (λ _ line l. EncodesLimit m.header.resources m.header.periods (fields_of line) l × (is_turned l.bound ≡ false)) 0 limits m.limits
  pub rising_limits : RiseStrictly m.limits

-- the lines begin a model of n blocks: followed by some lines, they encode one
abbrev pub BeginModel : Problem → ℕ → List Line → Type 0
BeginModel problem n lines = (following : List Line) × (m : StatedModel)
    × AreModelLines problem n (lines ++ following) m

-- the lines before this number begin a model, but with its line they begin none
pub record IsFirstSpoiled (problem : Problem) (n : ℕ) (lines : List Line)
    (number : ℕ) : Type 0 where
  pub before : List Line
  pub bad : Line
  pub following : List Line
  pub cut : lines ≡ before ++ bad ∷ following
  pub place : number ≡ bad.number
  pub begun : BeginModel problem n before
  pub spoiled : ¬ (BeginModel problem n (before ++ bad ∷ []))

-- all lines begin a model, but encode none
pub record EndsEarly (problem : Problem) (n : ℕ) (text : List ℕ) (fault : LineFault) : Type 0 where
  pub place : fault.line ≡ end_of text
  pub kind : fault.kind ≡ Missing
  pub begun : BeginModel problem n (lines_in text)
  pub no_model : (m : StatedModel) → ¬ (AreModelLines problem n (lines_in text) m)
