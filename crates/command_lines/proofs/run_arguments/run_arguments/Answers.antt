use Rattle.std.proofs.Common.{rules, ◌≡◌, ◌∙◌, ◌<◌, None, Some, ap, codes, length, map, option_map, string_bytes, sym}
use Rattle.std.proofs.lemmas.Option.{MatchOption-at_none, MatchOption-at_some}
use Rattle.clap.proofs.WalkLemmas.{first_value-rows, raw_values-rows}
use Rattle.clap.specs.Words.{first_value, found_of, matched_of, raw_values, rows_of}
use Rattle.command_lines.specs.CommandLine.{FindsSettings}
use Rattle.command_lines.proofs.FoundRun.{no_out, no_plan, no_settings, no_zone, no_zones, none_mapped, some_copied}
use Rattle.command_lines.proofs.run_arguments.run_arguments.Goals as goal

pub returns-in_default : goal.returns-in_default
returns-in_default c =
    let found = found_of c.args.found.now in
    let none : first_value found (codes "plan") ≡ None = search rules in
    no_plan (rows_of found) (sym (first_value-rows found (codes "plan")) ∙ none)

pub returns-in_default-get_str : goal.returns-in_default-get_str
returns-in_default-get_str c =
    let found = found_of c.args.found.now in
    let none : first_value found (codes "out") ≡ None = search rules in
    no_out (rows_of found) (sym (first_value-rows found (codes "out")) ∙ none)

pub returns-in_default-settings_in : goal.returns-in_default-settings_in
returns-in_default-settings_in c =
    let rows = rows_of (found_of c.args.found.now) in
    let none : c.settings_in.result ≡ None = search rules in
    no_settings rows (MatchOption-at_none _ (FindsSettings rows) none c.settings_in.ensures)

pub returns-in_default-get_strs : goal.returns-in_default-get_strs
returns-in_default-get_strs c =
    let found = found_of c.args.found.now in
    let none : option_map raw_values (matched_of found (codes "zone")) ≡ None = search rules in
    no_zones (rows_of found) (sym (raw_values-rows found (codes "zone")) ∙ none)

pub returns-then-is_empty : goal.returns-then-is_empty
returns-then-is_empty c =
    let found = found_of c.args.found.now in
    let zones = c.in-Some-get_strs.zones.now in
    let has : option_map raw_values (matched_of found (codes "zone")) ≡ Some (map (λ v. v.now) zones) = search rules in
    let empty : length zones ≡ 0 = search rules in
    no_zone (rows_of found) (sym (raw_values-rows found (codes "zone")) ∙ has ∙ ap (λ z. Some z) (none_mapped (λ v. v.now) zones empty))

pub returns : goal.returns
returns c =
    let found = found_of c.args.found.now in
    let zones = c.in-Some-get_strs.zones.now in
    let has_plan : first_value found (codes "plan") ≡ Some (string_bytes c.in_ok-plan.plan) = search rules in
    let has_out : first_value found (codes "out") ≡ Some (string_bytes c.in_ok-out.out) = search rules in
    let settings : c.settings_in.result ≡ Some c.in-Some-settings_in.settings = search rules in
    let copied : map string_bytes c.in_ok-zones.zones.items ≡ map (λ v. v.now) zones = search rules in
    let has_zones : option_map raw_values (matched_of found (codes "zone")) ≡ Some (map (λ v. v.now) zones) = search rules in
    let some : 0 < length zones = search rules in
    record {
      has_plan = sym (first_value-rows found (codes "plan")) ∙ has_plan;
      has_out = sym (first_value-rows found (codes "out")) ∙ has_out;
      has_settings = MatchOption-at_some _ (FindsSettings (rows_of found)) _ settings c.settings_in.ensures;
      has_zones = sym (raw_values-rows found (codes "zone")) ∙ has_zones ∙ ap (λ z. Some z) (sym copied);
      some_zone = some_copied string_bytes (λ v. v.now) c.in_ok-zones.zones.items zones copied some;
    }
