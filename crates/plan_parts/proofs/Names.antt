-- A NAME is text, with 65 possible bytes.
use Rattle.std.proofs.Common.{◌≡◌, ◌<◌, nat_eq, ℕ, List, [], ◌∷◌, Bool, true, false, arith, refl, sym, ◌∙◌, subst, All, rules}
use Rattle.std.proofs.lemmas.Bool.{and_parts}
use Rattle.std.proofs.lemmas.Bool.Decides.{nat_tests}
use Rattle.std.proofs.lemmas.Bool.{agree_below_at, eqb-true}
use Rattle.std.proofs.lemmas.Map.Views.{Contains-from_any, list_any-from_Contains}
use Rattle.std.proofs.lemmas.Cmp.{nat_eq_equiv}
use Rattle.std.specs.List.{list_all, list_any, Contains}
use Rattle.std.specs.Str.{IsUtf8}
use Rattle.std.proofs.lemmas.Str.{IsUtf8-from_ascii}
use Rattle.std.proofs.lemmas.Str.Ascii.{IsAscii-from_all}
use Rattle.std.proofs.lemmas.List.Elements.{All-cons}
use Rattle.plan_parts.specs.Name.{is_name_byte, is_name}
use Rattle.plan_parts.specs.PartLaws.{name_bytes}

name_byte_below : (b : ℕ) → is_name_byte b ≡ true → b < 128
name_byte_below b h = grind (arith, nat_tests)

all_below : (bytes : List ℕ) → list_all is_name_byte bytes ≡ true → All (λ b. b < 128) bytes
all_below [] h = search rules
all_below (b ∷ bytes) h =
    let parts : (is_name_byte b ≡ true) × (list_all is_name_byte bytes ≡ true) = and_parts _ _ h in
    All-cons (λ c. c < 128) b bytes (name_byte_below b parts.0) (all_below bytes parts.1)

pub not_text : (bytes : List ℕ) → (IsUtf8 bytes → ⊥) → is_name bytes ≡ false
not_text bytes never =
    decided (is_name bytes) (λ h. never (IsUtf8-from_ascii bytes (IsAscii-from_all bytes (all_below bytes (and_parts _ _ h).1))))
  where
    decided : (b : Bool) → (b ≡ true → ⊥) → b ≡ false
    decided true never = absurd (never refl)
    decided false never = refl

-- the bytes of a NAME, by the test and by the text that has them all
abbrev is_among : ℕ → Bool
is_among b = list_any (nat_eq b) name_bytes

decided_below : (b : ℕ) → b < 128 → is_name_byte b ≡ is_among b
decided_below b low = agree_below_at is_name_byte is_among 128 b refl low

all_ascii : All (λ b. b < 128) name_bytes
all_ascii = all_below name_bytes refl

pub among : (b : ℕ) → is_name_byte b ≡ true → Contains name_bytes b
among b h =
    Contains-from_any {eq = nat_eq} eqb-true b name_bytes (sym (decided_below b (name_byte_below b h)) ∙ h)

pub from_among : (b : ℕ) → Contains name_bytes b → is_name_byte b ≡ true
from_among b has = decided_below b (subst (λ c. c < 128) has.2 (all_ascii has.0 b has.1)) ∙ list_any-from_Contains nat_eq_equiv b name_bytes has
