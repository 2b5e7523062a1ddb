-- The text of what is named where there is no INT, and where there is one.
use Rattle.std.proofs.Common.{◌≡◌, ℕ, List, [], ◌++◌, Option, None, Some, find, ap, refl, ◌∙◌, subst}
use Rattle.ts_spec.specs.Recording.{Record}
use Rattle.int_spec.specs.Table.{TableFields}
use Rattle.int_spec.specs.Reading.{IsInt}
use Rattle.int_spec.specs.Versions.{is_int}
use Rattle.psi_spec.specs.Pat.{is_pat}
use Rattle.psi_spec.specs.Named.{ReadsAs, sections_on, int_on, pat_of, named_by}
use Rattle.psi_tables.specs.First.{wants}
use Rattle.psi_tables.specs.Watching.{FinderState, HasSeen}
use Rattle.psi_tables.specs.declared.first.Wanted.{Wanted}
use Rattle.psi_tables.specs.Text.{IsFindText, head_line, lines_of}

carries_none : (o : Option (List ℕ)) → None ≡ o → ReadsAs o None
carries_none None e = record {}
carries_none (Some section) e = absurd (cc)

carries_some : (o : Option (List ℕ)) (section : List ℕ) (table : TableFields) → Some section ≡ o → IsInt section table → ReadsAs o (Some table)
carries_some None section table e carried = absurd (cc)
carries_some (Some own) section table e carried =
    let same : section ≡ own = cc in subst (λ (s : List ℕ). IsInt s table) same carried

pub without_int : (pid : ℕ) (records : List Record) (text : List ℕ) → None ≡ int_on pid records → text ≡ head_line → IsFindText pid records text
without_int pid records text none is = record {
  rules = [];
  named = record { table = None; carried = carries_none (int_on pid records) none; rules_are = refl };
  text_is = is;
}

pub with_int : (pid : ℕ) (records : List Record) (section : List ℕ) (table : TableFields) (text : List ℕ) → Some section ≡ int_on pid records → IsInt section table
    → text ≡ head_line ++ lines_of (named_by records (Some table)) → IsFindText pid records text
with_int pid records section table text some carried is = record {
  rules = named_by records (Some table);
  named = record { table = Some table; carried = carries_some (int_on pid records) section table some carried; rules_are = refl };
  text_is = is;
}

-- what a finder's watches have, in the words of the recording
pub int_seen : {finder : FinderState} {records : List Record} → HasSeen finder records → finder.int.first.found ≡ int_on finder.pid records
int_seen {finder} {records} seen =
    seen.int.watched.found_is
    ∙ ap (λ (w : Wanted). find (wants w) (sections_on finder.int.pid records)) seen.int.wanted_is
    ∙ ap (λ (p : ℕ). find is_int (sections_on p records)) seen.int.pid_is

pub pat_seen : {finder : FinderState} {records : List Record} → HasSeen finder records → finder.pat.first.found ≡ pat_of records
pat_seen {finder} {records} seen =
    seen.pat.watched.found_is
    ∙ ap (λ (w : Wanted). find (wants w) (sections_on finder.pat.pid records)) seen.pat.wanted_is
    ∙ ap (λ (p : ℕ). find is_pat (sections_on p records)) seen.pat.pid_is
