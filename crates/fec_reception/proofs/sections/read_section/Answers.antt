use Rattle.std.proofs.Common.{◌≡◌, ℕ, ◌+◌, ◌≤◌, Bool, true, false, ◌&&◌, List, [], ◌∷◌, ◌++◌, length, Option, Some, None, refl, sym, ap, ap₂, ◌∙◌, subst, arith}
use Rattle.std.specs.Prelude.{◌==◌, nat_le, filter, option_to_list, option_map, if◌then◌else◌, IfSome, IfNone}
use Rattle.std.proofs.lemmas.Bool.{and_parts}
use Rattle.section_spec.specs.Section.{SectionFields, section_fields, section_check, has_right_length}
use Rattle.section_spec.specs.Mpe.{MpeFields, FecFields, has_mpe_head, is_current, mpe_of, fec_fields, has_fec_numbers, is_fec, fec_of}
use Rattle.section_codec.specs.Views.{fields_in}
use Rattle.mpe_section.specs.Views.{mpe_in, fec_in}
use Rattle.mpe_section.specs.declared.mpe.Mpe.{Mpe}
use Rattle.fec_frame_spec.specs.Sections.{data_section, parity_section, is_within_table, frame_sections_in}
use Rattle.fec_reception.specs.Reading.{section_in, FitsTable}
use Rattle.fec_reception.specs.declared.sections.Section.{Section}
use Rattle.fec_reception.specs.declared.sections.Section.TheVariants.{Data}
use Rattle.fec_reception.proofs.sections.read_section.Goals as goal

-- what is told only where a test is met
met_by : {T : Type 0} (test : Bool) (told : Option T) (it : T) → (if test then told else None) ≡ Some it → (test ≡ true) × (told ≡ Some it)
met_by true told it e = (refl, e)
met_by false told it e = cc

other_id : (id : ℕ) → (id == 0x3E) ≡ true → (id == 0x78) ≡ false
other_id id e = grind (arith, e)

le_of : (a b : ℕ) → nat_le a b ≡ true → a ≤ b
le_of a b e = grind (arith, e)

-- a datagram_section is no MPE-FEC section
no_fec : (rows : ℕ) (s : SectionFields) (m : MpeFields) → mpe_of s ≡ Some m → fec_of rows s ≡ None
no_fec rows s m e =
    let head = (met_by (has_mpe_head s) _ m e).0 in
    let id = (and_parts (s.table_id == 0x3E) _ head).0 in
    ap (λ (b : Bool). if b && (is_current s.body && (has_fec_numbers s.body && (length s.body == 9 + rows))) then Some (fec_fields s.body) else None) (other_id s.table_id id)

-- the numbers of an MPE-FEC section
fec_fits : (rows : ℕ) (s : SectionFields) (f : FecFields) → fec_of rows s ≡ Some f → (f.padding ≤ 190) × (f.number ≤ f.last) × (f.last ≤ 63)
fec_fits rows s f e =
    let is = met_by (is_fec rows s) (Some (fec_fields s.body)) f e in
    let later = (and_parts (s.table_id == 0x78) _ is.0).1 in
    let numbers = (and_parts (has_fec_numbers s.body) _ (and_parts (is_current s.body) _ later).1).0 in
    let two = and_parts (nat_le (fec_fields s.body).padding 190) _ numbers in
    let three = and_parts (nat_le (fec_fields s.body).number (fec_fields s.body).last) _ two.1 in
    let same : fec_fields s.body ≡ f = let h = is.1 in cc in
    subst (λ (f : FecFields). (f.padding ≤ 190) × (f.number ≤ f.last) × (f.last ≤ 63)) same (le_of _ _ two.0, le_of _ _ three.0, le_of _ _ three.1)

-- the sections that a unit is, by what is read of it
sections_are : (rows : ℕ) (unit : List ℕ) (s : SectionFields) (m : Option MpeFields) (f : Option FecFields) → s ≡ section_fields unit → mpe_of s ≡ m → fec_of rows s ≡ f
    → frame_sections_in rows unit ≡ filter (is_within_table rows) (option_to_list (option_map data_section m) ++ option_to_list (option_map parity_section f))
sections_are rows unit s m f read mpe fec =
    ap₂ (λ (m : Option MpeFields) (f : Option FecFields). filter (is_within_table rows) (option_to_list (option_map data_section m) ++ option_to_list (option_map parity_section f)))
    (ap mpe_of (sym read) ∙ mpe) (ap (fec_of rows) (sym read) ∙ fec)

-- a datagram_section, where its datagram is within the table
within_is : (rows : ℕ) (m : Mpe) (r : Option Section) → IfSome r (λ s. (s ≡ Data m) × FitsTable rows s) → IfNone r (is_within_table rows (data_section (mpe_in m)) ≡ false)
    → option_to_list (option_map section_in r) ≡ filter (is_within_table rows) (data_section (mpe_in m) ∷ [])
within_is rows m None some none = sym (ap (λ (b : Bool). if b then data_section (mpe_in m) ∷ [] else []) none)
within_is rows m (Some s) some none =
    ap (λ (t : Section). section_in t ∷ []) some.0
    ∙ sym (ap (λ (b : Bool). if b then data_section (mpe_in m) ∷ [] else []) (subst (FitsTable rows) some.0 some.1))

fits_of : (rows : ℕ) (m : Mpe) (r : Option Section) → IfSome r (λ s. (s ≡ Data m) × FitsTable rows s) → IfSome r (FitsTable rows)
fits_of rows m None some = tt
fits_of rows m (Some s) some = some.1

pub returns-in_default-clause-read : goal.returns-in_default-clause-read
returns-in_default-clause-read c = λ is.
    let whole = ((c.sections_are_units.ensures.units c.args.unit.now).0 is).0 in
    let right = (and_parts (has_right_length c.args.unit.now) (section_check c.args.unit.now) whole).0 in
    absurd (let h = c.in_default.ensures.only ∙ right in cc)

pub returns-in-Ok-clause-read : goal.returns-in-Ok-clause-read
returns-in-Ok-clause-read c = λ _.
    within_is c.args.rows c.in-Ok.mpe c.data_within.result c.data_within.ensures.some c.data_within.ensures.none
    ∙ sym (sections_are c.args.rows c.args.unit.now (fields_in c.in-Some.section) _ _ c.in-Some.ensures.read c.in-Ok.ensures.read (no_fec c.args.rows (fields_in c.in-Some.section) _ c.in-Ok.ensures.read))

pub returns-in-Ok-clause-fits : goal.returns-in-Ok-clause-fits
returns-in-Ok-clause-fits c = fits_of c.args.rows c.in-Ok.mpe c.data_within.result c.data_within.ensures.some

pub returns-in-Ok-read_fec-clause-read : goal.returns-in-Ok-read_fec-clause-read
returns-in-Ok-read_fec-clause-read c = λ _.
    sym (sections_are c.args.rows c.args.unit.now (fields_in c.in-Some.section) _ _ c.in-Some.ensures.read c.in_default-read_mpe.ensures.only c.in-Ok-read_fec.ensures.read)

pub returns-in-Ok-read_fec-clause-fits : goal.returns-in-Ok-read_fec-clause-fits
returns-in-Ok-read_fec-clause-fits c =
    let fits = fec_fits c.args.rows (fields_in c.in-Some.section) (fec_in c.in-Ok-read_fec.fec) c.in-Ok-read_fec.ensures.read in
    (fits.0, fits.1, fits.2, c.in-Ok-read_fec.ensures.within)

pub returns-in-Err-clause-read : goal.returns-in-Err-clause-read
returns-in-Err-clause-read c = λ _.
    sym (sections_are c.args.rows c.args.unit.now (fields_in c.in-Some.section) _ _ c.in-Some.ensures.read c.in_default-read_mpe.ensures.only c.in-Err.ensures.only)
