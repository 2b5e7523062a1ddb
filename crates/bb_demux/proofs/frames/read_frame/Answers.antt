use Rattle.std.proofs.Common.{◌≡◌, List, ℕ, false, length, ◌≤◌, Result, Ok, Err, IfOk, IfErr, sym, subst}
use Rattle.std.specs.Prelude.{is_ok}
use Rattle.std.proofs.lemmas.Result.{IfOk-weaker}
use Rattle.gse_spec.specs.Frame.{FrameFields, is_frame, frame_fields}
use Rattle.bb_frame.specs.Views.{fields_in}
use Rattle.bb_frame.specs.declared.frame.Frame.{Frame}
use Rattle.bb_frame.specs.declared.frame.FrameFault.{FrameFault}
use Rattle.gse_reception.specs.Reception.{IsRead}
use Rattle.bb_demux.proofs.Fields.{short_field}
use Rattle.bb_demux.proofs.frames.read_frame.Goals as goal

was_read : (result : Result Frame FrameFault) (bytes : List ℕ) → is_ok result ≡ is_frame bytes → IfOk result (λ frame. fields_in frame ≡ frame_fields bytes) → IfOk result (λ frame. IsRead frame bytes)
was_read (Ok frame) bytes only read = record { readable = sym only; fields_are = sym read }
was_read (Err fault) bytes only read = tt

was_refused : (result : Result Frame FrameFault) (bytes : List ℕ) → is_ok result ≡ is_frame bytes → IfErr result (λ _. is_frame bytes ≡ false)
was_refused (Ok frame) bytes only = tt
was_refused (Err fault) bytes only = sym only

pub returns-clause-read : goal.returns-clause-read
returns-clause-read c = was_read c.parse.result c.args.bytes.now c.parse.ensures.only c.parse.ensures.read

pub returns-clause-short : goal.returns-clause-short
returns-clause-short c =
    IfOk-weaker c.parse.result (λ frame. fields_in frame ≡ frame_fields c.args.bytes.now) (λ frame. length (fields_in frame).field ≤ 8191)
    (λ frame read. subst (λ (f : FrameFields). length f.field ≤ 8191) (sym read) (short_field c.args.bytes.now c.type_inv.bytes)) c.parse.ensures.read

pub returns-clause-refused : goal.returns-clause-refused
returns-clause-refused c = was_refused c.parse.result c.args.bytes.now c.parse.ensures.only
