-- What the code tells of the unit at the front of some bytes.
use Rattle.ts_spec.specs.Form.{Span as FormSpan, more, stuffing, whole, bad}
use Rattle.unit_stream.specs.declared.form.Span.{Span}
use Rattle.unit_stream.specs.declared.form.Span.TheVariants as told

-- a span of the code as a `Span` of the definitions (ISO/IEC 13818-1 clause 2.4.4, RFC 4326 section 4)
abbrev pub span_told : Span → FormSpan
span_told told.More = more
span_told told.Stuffing = stuffing
span_told (told.Whole size) = whole size
span_told told.Bad = bad
