-- The counts of texts that denote an instance and its constrained pit limit problem.
use Rattle.std.proofs.Common.{◌≡◌, ◌∙◌, ℕ, List, [], ◌∷◌, ◌++◌, Option, Some, Result, Ok, Err, ap, sym, refl, subst, length, map}
use Rattle.std.proofs.lemmas.List.{length-map}
use Rattle.pit_units.specs.Steps.{◌>>=◌}
use Rattle.mine_instance.specs.Largest.{largest}
use Rattle.mine_instance.specs.Instance.{Instance}
use Rattle.mine_instance.specs.Valid.{IsValid}
use Rattle.mine_instance.specs.cpit.Cpit.{CpitParts}
use Rattle.mine_instance.specs.cpit.OfCpit.{cpit}
use Rattle.minelib_lines.specs.declared.text_name.TextName.TheVariants.{Blocks, Prec, Pcpsp, Cpit}
use Rattle.minelib_reading.specs.Denotes.{Denotes, DenotesCpit, cpit_denoted, denoted}
use Rattle.minelib_writing.specs.Texts.{text_named}
use Rattle.text_lines.specs.declared.text_fault.TextFault.{TextFault}
use Rattle.check_command.specs.Counts.{ReportsCounts, Texts, counted, counts_of, counts_words, cpit_counted}
use Rattle.check_command.specs.WrittenTexts.{ReportsCountsOf, own_counts, texts_of}
use Rattle.check_command.specs.declared.counts.Counts.{Counts}

cpit_back : (n : ℕ) (text : List ℕ) (c : CpitParts) → cpit_denoted n text ≡ Ok c → cpit_counted n (Some text) ≡ Ok (Some (length c.coefs))
unfolding cpit_counted
cpit_back n text c e = ap (λ (read : Result CpitParts TextFault). read >>= λ p. Ok (Some (length p.coefs))) e

all_back : (texts : Texts) (i : Instance) (coefs : Option ℕ) → denoted texts.blocks texts.prec texts.pcpsp ≡ Ok i
    → cpit_counted (length i.blocks) texts.cpit ≡ Ok coefs → counted texts ≡ Ok (counts_of i coefs)
unfolding counted
all_back texts i coefs read more =
    ap (λ (read : Result Instance TextFault). read >>= λ j. cpit_counted (length j.blocks) texts.cpit >>= λ n. Ok (counts_of j n)) read
    ∙ ap (λ (n : Result (Option ℕ) TextFault). n >>= λ n. Ok (counts_of i n)) more

pub counted_back : (i : Instance) → IsValid i → Denotes (text_named Blocks i) (text_named Prec i) (text_named Pcpsp i) i
    → DenotesCpit (length (cpit i).values) (text_named Cpit i) (cpit i) → counted (texts_of i) ≡ Ok (own_counts i)
counted_back i valid read more =
    let count : length (cpit i).values ≡ length i.blocks = length-map i.values largest ∙ valid.lengths.values in
    all_back (texts_of i) i (Some (length (cpit i).coefs)) read
    (cpit_back (length i.blocks) (text_named Cpit i) (cpit i) (subst (λ n. cpit_denoted n (text_named Cpit i) ≡ Ok (cpit i)) count more))

-- what is reported is the line with the counts
counts_or : Result Counts TextFault → Counts → Counts
counts_or (Ok c) other = c
counts_or (Err fault) other = other

ok_same : (a b : Counts) (x : Result Counts TextFault) → x ≡ Ok a → x ≡ Ok b → a ≡ b
unfolding counts_or
ok_same a b x e f = ap (λ r. counts_or r a) (sym e ∙ f)

pub reported_back : (i : Instance) (old new : List ℕ) → counted (texts_of i) ≡ Ok (own_counts i) → ReportsCounts (texts_of i) old new
    → ReportsCountsOf i old new
reported_back i old new is reported =
    let same : reported.1.0 ≡ own_counts i = ok_same reported.1.0 (own_counts i) (counted (texts_of i)) reported.1.1 is in
    reported.2 ∙ ap (λ line. old ++ line) (reported.1.2 ∙ ap (λ c. counts_words c ++ 10 ∷ []) same)
