-- What is wrong with a document where a rule isn't kept.
use Rattle.faults.specs.declared.fault.Wrong.{Wrong}
use Rattle.faults.specs.declared.fault.Wrong.TheVariants as wrong
use Rattle.doc_rules.specs.declared.rule.Rule.{Rule}
use Rattle.doc_rules.specs.declared.rule.SourceRule.{SourceRule}
use Rattle.doc_rules.specs.declared.rule.SourceRule.TheVariants as source
use Rattle.doc_rules.specs.declared.rule.Rule.TheVariants as rule

abbrev pub wrong_of_source : SourceRule → Wrong
wrong_of_source source.Label = wrong.Argument
wrong_of_source source.Seen = wrong.UnknownLabel
wrong_of_source (source.Number subject) = wrong.Condition
wrong_of_source (source.Item subject) = wrong.Condition

abbrev pub wrong_of : Rule → Wrong
wrong_of rule.Json = wrong.NotJson
wrong_of (rule.Shape shape) = wrong.Shape
wrong_of (rule.Name version named) = wrong.Name
wrong_of rule.NewObject = wrong.DuplicateObject
wrong_of rule.KnownObject = wrong.UnknownObject
wrong_of (rule.KnownOperation version kind) = wrong.UnknownOperation
wrong_of (rule.Argument argument) = wrong.Argument
wrong_of (rule.Source place one) = wrong_of_source one
wrong_of rule.SeenLabel = wrong.UnknownLabel
wrong_of rule.NewLabel = wrong.DuplicateLabel
wrong_of (rule.Condition condition) = wrong.Condition
wrong_of rule.Depth = wrong.Depth
wrong_of (rule.Few counted) = wrong.TooMany
wrong_of (rule.Start start) = wrong.Start
