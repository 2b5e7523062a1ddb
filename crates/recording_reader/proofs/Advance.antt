-- From one piece of a recording to the next, and the ends of the reading.
use Rattle.std.proofs.Common.{◌≡◌, ℕ, ◌+◌, ◌*◌, ◌^◌, ◌<◌, Bool, true, false, List, [], ◌∷◌, ◌++◌, length, refl, ap, sym, ◌∙◌, subst, arith, Option, None, Some, append_assoc, Result, Ok, Err, add-one}
use Rattle.std.proofs.lemmas.List.{append-nil, length_push}
use Rattle.std.proofs.Math.Nat.{mul-zero, mul-suc}
use Rattle.std.proofs.lemmas.List.Elements.{All-push}
use Rattle.std.specs.Io.KnownBytes.{Consumes, IsAtEnd}
use Rattle.wire_spec.specs.Causes.{Rose, raised}
use Rattle.wire_spec.specs.Lists.{joined}
use Rattle.ts_spec.specs.Recording.{RecordingForm, Record, records_of}
use Rattle.ipe_io.specs.Told.{InputTold}
use Rattle.ipe_io.proofs.Told.{raised-raised}
use Rattle.recording_reader.specs.declared.fault.ReadFault.{ReadFault}
use Rattle.recording_reader.specs.declared.fault.ReadFault.TheVariants as fault
use Rattle.recording_reader.specs.Reading.{HasTaken, Reads, Steps, StepsOn}

-- Bytes that were read.

joined-push : (xs : List (List ℕ)) (x : List ℕ) → joined (xs ++ x ∷ []) ≡ joined xs ++ x
joined-push [] x = append-nil x
joined-push (y ∷ ys) x = ap (λ t. y ++ t) (joined-push ys x) ∙ sym (append_assoc y (joined ys) x)

consumes_then : (a b c : Option (List ℕ)) (p q : List ℕ) → Consumes a b p → Consumes b c q → Consumes a c (p ++ q)
consumes_then None b c p q h k = tt
consumes_then (Some xs) None c p q h k = absurd h
consumes_then (Some xs) (Some ys) None p q h k = absurd k
consumes_then (Some xs) (Some ys) (Some zs) p q h k = h ∙ ap (λ s. p ++ s) k ∙ sym (append_assoc p q zs)

consumes_none : (left : Option (List ℕ)) → Consumes left left []
consumes_none None = tt
consumes_none (Some bytes) = refl

consumed_more : (left mid now : Option (List ℕ)) (pieces : List (List ℕ)) (piece : List ℕ) → Consumes left mid (joined pieces) → Consumes mid now piece
    → Consumes left now (joined (pieces ++ piece ∷ []))
consumed_more left mid now pieces piece before last =
    subst (λ (t : List ℕ). Consumes left now t) (sym (joined-push pieces piece)) (consumes_then left mid now (joined pieces) piece before last)

consumed_all : (left now : Option (List ℕ)) (pieces : List (List ℕ)) → Consumes left now (joined pieces) → Consumes left now (joined pieces ++ [])
consumed_all left now pieces read = subst (λ (t : List ℕ). Consumes left now t) (sym (append-nil (joined pieces))) read

-- How many bytes were taken.

grown_product : (a n : ℕ) → a * n + a ≡ a * (n + 1)
grown_product a n = sym (mul-suc a n) ∙ ap (λ (m : ℕ). a * m) (sym (add-one n))

taken_more : (size before mid now : ℕ) (pieces : List (List ℕ)) (piece : List ℕ) → length piece ≡ size → mid ≡ raised before (size * length pieces)
    → now ≡ raised mid (length piece) → now ≡ raised before (size * length (pieces ++ piece ∷ []))
taken_more size before mid now pieces piece sized so_far more =
    more ∙ ap (λ (m : ℕ). raised m (length piece)) so_far ∙ raised-raised before (size * length pieces) (length piece)
    ∙ ap (raised before) (ap (λ (n : ℕ). size * length pieces + n) sized ∙ grown_product size (length pieces) ∙ ap (λ (n : ℕ). size * n) (sym (length_push pieces piece)))

taken_then : (size before mid now : ℕ) (pieces : List (List ℕ)) (behind : List ℕ) → mid ≡ raised before (size * length pieces)
    → now ≡ raised mid (length behind) → now ≡ raised before (size * length pieces + length behind)
taken_then size before mid now pieces behind so_far more =
    more ∙ ap (λ (m : ℕ). raised m (length behind)) so_far ∙ raised-raised before (size * length pieces) (length behind)

taken_all : (size before now : ℕ) (pieces : List (List ℕ)) → now ≡ raised before (size * length pieces) → now ≡ raised before (size * length pieces + 0)
taken_all size before now pieces so_far = omega (arith, so_far)

-- Nothing was read.

pub none_taken : (form : RecordingForm) (size : ℕ) (input : InputTold) (Took : List Record → Type 0) → raised input.taken 0 ≡ input.taken → records_of form [] ≡ [] → Took []
    → HasTaken form size input input Took []
none_taken form size input Took fits none took = record {
  each = λ k d lt. absurd (omega (arith, lt));
  consumed = consumes_none input.left;
  taken = sym (ap (raised input.taken) (mul-zero size) ∙ fits);
  going = λ e. e;
  input_faults = refl;
  took = subst Took (sym none) took;
}

-- One piece more, or an end: the input before the first piece, before the last, and after it.

module _ (form : RecordingForm) (size : ℕ) (input mid now : InputTold) (TookMid : List Record → Type 0) (pieces : List (List ℕ))
    (given : HasTaken form size input mid TookMid pieces) where
  pub taken_next : (Took : List Record → Type 0) (HasRead : List (List ℕ) → Type 0) (piece : List ℕ) → length piece ≡ size
      → Consumes mid.left now.left piece → now.taken ≡ raised mid.taken (length piece)
      → (mid.ended ≡ false → now.ended ≡ false) → now.faults ≡ mid.faults → HasRead (pieces ++ piece ∷ []) → Took (records_of form (pieces ++ piece ∷ []))
      → StepsOn form size input now HasRead Took pieces
  taken_next Took HasRead piece sized read rose going same has_read took = record {
    piece = piece;
    has_read = has_read;
    going = record {
      each = All-push (λ p. length p ≡ size) pieces piece given.each sized;
      consumed = consumed_more input.left mid.left now.left pieces piece given.consumed read;
      taken = taken_more size input.taken mid.taken now.taken pieces piece sized given.taken rose;
      going = λ e. going (given.going e);
      input_faults = same ∙ given.input_faults;
      took = took;
    };
  }

  -- the taker stopped
  pub ends_in_piece : (Took Stopped : List Record → Type 0) (piece : List ℕ) → 0 < size → length pieces < 2 ^ 32 → length piece ≡ size
      → Consumes mid.left now.left piece → now.taken ≡ raised mid.taken (length piece)
      → now.faults ≡ mid.faults → Stopped (records_of form (pieces ++ piece ∷ [])) → Reads (Err fault.Taker) form size input now Took Stopped
  ends_in_piece Took Stopped piece some few sized read rose same stopped = record {
    pieces = pieces ++ piece ∷ [];
    behind = [];
    each = All-push (λ p. length p ≡ size) pieces piece given.each sized;
    short = some;
    consumed = consumed_all input.left now.left (pieces ++ piece ∷ []) (consumed_more input.left mid.left now.left pieces piece given.consumed read);
    taken = taken_all size input.taken now.taken (pieces ++ piece ∷ []) (taken_more size input.taken mid.taken now.taken pieces piece sized given.taken rose);
    ends = (refl, omega (arith, few, length_push pieces piece), same ∙ given.input_faults, stopped);
  }

  -- the input has ended
  pub ends_all : (Stopped : List Record → Type 0) (behind : List ℕ) (tail : ℕ) → length pieces < 2 ^ 32 → length behind < size
      → Consumes mid.left now.left behind → now.taken ≡ raised mid.taken (length behind) → IsAtEnd now.left → tail ≡ length behind
      → now.ended ≡ true → now.faults ≡ mid.faults → Reads (Ok tail) form size input now TookMid Stopped
  ends_all Stopped behind tail few short read rose at_end tail_is ended same = record {
    pieces = pieces;
    behind = behind;
    each = given.each;
    short = short;
    consumed = consumes_then input.left mid.left now.left (joined pieces) behind given.consumed read;
    taken = taken_then size input.taken mid.taken now.taken pieces behind given.taken rose;
    ends = (tail_is, few, at_end, ended, same ∙ given.input_faults, given.took);
  }

  -- the input failed
  pub ends_in_input : (Stopped : List Record → Type 0) (behind : List ℕ) → length pieces < 2 ^ 32 → length behind < size
      → Consumes mid.left now.left behind → now.taken ≡ raised mid.taken (length behind)
      → (mid.ended ≡ false → now.ended ≡ false) → Rose mid.faults now.faults → Reads (Err fault.Source) form size input now TookMid Stopped
  ends_in_input Stopped behind few short read rose going failed = record {
    pieces = pieces;
    behind = behind;
    each = given.each;
    short = short;
    consumed = consumes_then input.left mid.left now.left (joined pieces) behind given.consumed read;
    taken = taken_then size input.taken mid.taken now.taken pieces behind given.taken rose;
    ends = (few, λ e. going (given.going e), failed ∙ ap (λ (n : ℕ). raised n 1) given.input_faults, given.took);
  }

-- the most pieces were taken
pub ends_at_limit : (form : RecordingForm) (size : ℕ) (input mid : InputTold) (Took Stopped : List Record → Type 0) (pieces : List (List ℕ))
    → HasTaken form size input mid Took pieces → 0 < size → length pieces ≡ 2 ^ 32 → Reads (Err fault.TooLong) form size input mid Took Stopped
ends_at_limit form size input mid Took Stopped pieces given some full = record {
  pieces = pieces;
  behind = [];
  each = given.each;
  short = some;
  consumed = consumed_all input.left mid.left pieces given.consumed;
  taken = taken_all size input.taken mid.taken pieces given.taken;
  ends = (refl, full, given.input_faults, given.took);
}

-- the same where the form and the size are told otherwise
pub taken_at : (form other : RecordingForm) (size other_size : ℕ) (input now : InputTold) (Took : List Record → Type 0) (pieces : List (List ℕ)) → form ≡ other → size ≡ other_size
    → HasTaken form size input now Took pieces → HasTaken other other_size input now Took pieces
taken_at form other size other_size input now Took pieces same alike given =
    subst (λ (f : RecordingForm). HasTaken f other_size input now Took pieces) same (subst (λ (s : ℕ). HasTaken form s input now Took pieces) alike given)

pub reads_at : (result : Result ℕ ReadFault) (form other : RecordingForm) (size other_size : ℕ) (input now : InputTold) (Took Stopped : List Record → Type 0) → form ≡ other → size ≡ other_size
    → Reads result form size input now Took Stopped → Reads result other other_size input now Took Stopped
reads_at result form other size other_size input now Took Stopped same alike reads =
    subst (λ (f : RecordingForm). Reads result f other_size input now Took Stopped) same (subst (λ (s : ℕ). Reads result form s input now Took Stopped) alike reads)

-- what a step's answer says
module _ (b : Bool) (form : RecordingForm) (size : ℕ) (input now : InputTold) (tail : ℕ) (HasRead : List (List ℕ) → Type 0) (Took Stopped : List Record → Type 0) (pieces : List (List ℕ))
  where
    pub steps_true : b ≡ true → Steps (Ok b) form size input now tail HasRead Took Stopped pieces → StepsOn form size input now HasRead Took pieces
    steps_true is steps = subst (λ (a : Bool). Steps (Ok a) form size input now tail HasRead Took Stopped pieces) is steps

    pub steps_false : b ≡ false → Steps (Ok b) form size input now tail HasRead Took Stopped pieces → Reads (Ok tail) form size input now Took Stopped
    steps_false is steps = subst (λ (a : Bool). Steps (Ok a) form size input now tail HasRead Took Stopped pieces) is steps

pub tail_is : (tail other : ℕ) (form : RecordingForm) (size : ℕ) (input now : InputTold) (Took Stopped : List Record → Type 0) → other ≡ tail
    → Reads (Ok tail) form size input now Took Stopped → Reads (Ok other) form size input now Took Stopped
tail_is tail other form size input now Took Stopped same reads = subst (λ (n : ℕ). Reads (Ok n) form size input now Took Stopped) (sym same) reads
