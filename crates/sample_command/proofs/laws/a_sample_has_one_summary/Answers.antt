use Rattle.std.proofs.Common.{List, ℕ, ap, sym, ◌∙◌}
use Rattle.plan_spec.specs.Given.{sample_plan}
use Rattle.sample_spec.specs.Datagrams.{sample_datagrams}
use Rattle.sample_spec.specs.Summary.{sample_text}
use Rattle.sample_command.proofs.laws.a_sample_has_one_summary.Goals as goal

pub returns : goal.returns
returns c = λ number one other a b.
    a.text_is ∙ ap (λ (stream : List (List ℕ)). sample_text number stream) (c.there_is_one_stream.ensures.one sample_plan (sample_datagrams number) a.stream b.stream a.is_stream b.is_stream)
    ∙ sym b.text_is
