-- What the lines of a model file state so far, for the production scheduling problem or the constrained pit limit problem.
use Rattle.std.specs.Prelude.{ℕ, ◌+◌, ◌-◌, ◌==◌, ◌&&◌, Bool, true, List, [], length, ℤ, Option, Some, None, slice_get}
use Rattle.plan_parts.specs.declared.limit.Limit.{Limit}
use Rattle.mine_instance.specs.declared.coefs.coef.Coef.{Coef}
use Rattle.minelib_lines.specs.declared.header_key.HeaderKey.{HeaderKey}
use Rattle.minelib_lines.specs.declared.header_key.HeaderKey.TheVariants as key
use Rattle.minelib_lines.specs.declared.problem.Problem.{Problem}
use Rattle.minelib_lines.specs.declared.problem.Problem.TheVariants.{Pcpsp, Cpit}
use Rattle.minelib_reading.specs.HeaderNumbers.{is_complete, no_key, with_key}
use Rattle.minelib_reading.specs.declared.model.key.Header.{Header}
use Rattle.minelib_reading.specs.declared.model.key.Section.{Section}
use Rattle.minelib_reading.specs.declared.model.key.Section.TheVariants.{Heading, Objective, Coefs, Limits}

-- `blocks` is the number of blocks
pub record ModelDraftView : Type 0 where
  pub problem : Problem
  pub blocks : ℕ
  -- empty before its key was read
  pub name : List ℕ
  pub header : Header
  pub section : Section
  pub values : List (List ℤ)
  pub coefs : List Coef
  pub limits : List Limit

-- the header before its first key: a CPIT has one destination and no general side constraints, and no keys for them
abbrev pub blank_header : Problem → Header
blank_header Pcpsp = no_key
blank_header Cpit = with_key (with_key no_key key.Destinations 1) key.General 0

-- before the first line
abbrev pub blank_model : Problem → ℕ → ModelDraftView
blank_model problem n = record {
  problem = problem;
  blocks = n;
  name = [];
  header = blank_header problem;
  section = Heading;
  values = [];
  coefs = [];
  limits = [];
}

-- the sections in order, after the header
abbrev pub rank : Section → ℕ
rank Heading = 0
rank Objective = 1
rank Coefs = 2
rank Limits = 3

abbrev pub is_heading : Section → Bool
is_heading section = rank section == 0

abbrev pub is_limits : Section → Bool
is_limits section = rank section == 3

-- the second section follows the first
abbrev pub is_next : Section → Section → Bool
is_next section next = rank next == rank section + 1

-- everything required before the next section is there: each header key, or the values of each block
abbrev pub is_ready : ModelDraftView → Section → Bool
is_ready d Heading = is_complete d.header
is_ready d Objective = length d.values == d.blocks
is_ready d Coefs = true
is_ready d Limits = true

-- no required part of the file is missing
abbrev pub has_all_parts : ModelDraftView → Bool
has_all_parts d = is_complete d.header && (length d.values == d.blocks) && is_limits d.section

-- the NAME after a header key with this value
abbrev pub name_with : HeaderKey → List ℕ → List ℕ → List ℕ
name_with key.Name value name = value
name_with k value name = name

-- the last item of a list, if there is one
abbrev pub last_of : {A : Type 0} → List A → Option A
last_of items = slice_get items (length items - 1)

-- an item follows the last one, if there is one
abbrev pub is_after : {A : Type 0} → (A → A → Bool) → Option A → A → Bool
is_after before None x = true
is_after before (Some last) x = before last x
