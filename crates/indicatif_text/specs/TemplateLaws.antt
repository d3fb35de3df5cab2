-- Laws of the grammar of templates.
use Rattle.std.specs.Prelude.{◌≡◌, ℕ, ◌⊎◌, List}
use Rattle.indicatif_text.specs.Template.{TemplatePart, Parses, Refuses}
use Rattle.indicatif_text.specs.declared.template.TemplateError.{TemplateError}

-- each text is a template or is refused
abbrev pub OneOfBoth : Type 0
OneOfBoth = (text : List ℕ) → ((parts : List TemplatePart) × Parses text parts) ⊎ ((place : List ℕ) × (error : TemplateError) × Refuses text place error)

-- and never both
abbrev pub NeverBoth : Type 0
NeverBoth = (text : List ℕ) (parts : List TemplatePart) (place : List ℕ) (error : TemplateError) → Parses text parts → ¬ Refuses text place error

-- a template has one list of parts
abbrev pub OneList : Type 0
OneList = (text : List ℕ) (parts others : List TemplatePart) → Parses text parts → Parses text others → parts ≡ others

-- a refusal has one place and error
abbrev pub OnePlace : Type 0
OnePlace = (text : List ℕ) (place other : List ℕ) (error another : TemplateError) → Refuses text place error → Refuses text other another → (place ≡ other) × (error ≡ another)
