use Rattle.fields.proofs.FieldLaws.{span_small}
use Rattle.fields.proofs.spans_fit.Goals as goal

pub returns : goal.returns
returns c = span_small _ c.type_inv.m
