-- Worked cases of the grammar of templates. The place of a refusal is given by the rest of the text.
use Rattle.std.specs.Prelude.{true, [], ◌∷◌, ◌++◌, Some, codes}
use Rattle.indicatif_text.specs.declared.refusal.TemplateState.TheVariants.{MaybeOpen, DoubleClose, Align, Width}
use Rattle.indicatif_text.specs.declared.template.Alignment.TheVariants.{Center}
use Rattle.indicatif_text.specs.declared.template.TemplateError.TheVariants.{Unexpected, WidthTooLarge}
use Rattle.indicatif_text.specs.Template.{LiteralText, LineBreak, KeyText, plain_layout, Parses, Refuses}

abbrev pub Templates : Type 0
Templates =
    Parses (codes "ab{") []
    × Parses (codes "a{ b") (LiteralText (codes "a{ b") ∷ [])
    × Parses (codes "{foo:5!3}") (KeyText (codes "foo") (record plain_layout { width = Some 53; truncate = true }) ∷ [])
    × Parses (codes "}") (LiteralText (codes "}") ∷ [])
    × Refuses (codes "}x") (codes "x") (Unexpected 120 DoubleClose)
    × Refuses (codes "{}") (codes "}") (Unexpected 125 MaybeOpen)
    × Refuses (codes "{bar:70000}") (codes "}") WidthTooLarge
    × Parses (codes "{bar:70000") (KeyText (codes "bar") plain_layout ∷ [])
    × Parses (codes "{{x}}") (LiteralText (codes "{x}") ∷ [])
    × Parses (codes "p{k}ab{") (LiteralText (codes "p") ∷ KeyText (codes "k") plain_layout ∷ [])
    × Parses (codes "ab{{c{") []
    × Parses (codes "ab{k") (LiteralText (codes "ab") ∷ [])
    × Parses (codes "a{ b{") (LiteralText (codes "a{ ") ∷ [])
    × Parses (codes "{k:65535}") (KeyText (codes "k") (record plain_layout { width = Some 65535 }) ∷ [])
    × Refuses (codes "{k:65536}") (codes "}") WidthTooLarge
    × Parses (codes "{k:0}") (KeyText (codes "k") (record plain_layout { width = Some 0 }) ∷ [])
    × Parses (codes "{k:99999") (KeyText (codes "k") plain_layout ∷ [])
    × Refuses (codes "{k:99999.red") (codes ".red") WidthTooLarge
    × Refuses (codes "{k:<>}") (codes ">}") (Unexpected 62 Width)
    × Refuses (codes "{k:x}") (codes "x}") (Unexpected 120 Align)
    × Refuses (codes "{k:/red}") (codes "/red}") (Unexpected 47 Align)
    × Refuses (codes "{k:5/red}") (codes "/red}") (Unexpected 47 Width)
    × Refuses (codes "{:5}") (codes ":5}") (Unexpected 58 MaybeOpen)
    × Refuses (codes "{k:70000}}x") (codes "}}x") WidthTooLarge
    × Refuses (codes "}x{k:70000}") (codes "x{k:70000}") (Unexpected 120 DoubleClose)
    × Parses (codes "{foo!}") (KeyText (codes "foo!") plain_layout ∷ [])
    × Parses (codes "{a{b}") (KeyText (codes "a{b") plain_layout ∷ [])
    × Parses (codes "{k:^5!.red.on_blue/green}")
    (KeyText (codes "k") (record plain_layout { align = Center; width = Some 5; truncate = true; style = Some (31 ∷ 44 ∷ []); alternative = Some (32 ∷ []) }) ∷ [])
    × Parses (codes "{k:.}") (KeyText (codes "k") plain_layout ∷ [])
    × Parses (codes "{k:5.red") (KeyText (codes "k") (record plain_layout { width = Some 5 }) ∷ [])
    × Parses (codes "{k:5.red/bl") (KeyText (codes "k") (record plain_layout { width = Some 5; style = Some (31 ∷ []) }) ∷ [])
    × Parses (codes "a" ++ (10 ∷ []) ++ codes "b{c" ++ (10 ∷ []) ++ codes "d}") (LiteralText (codes "a") ∷ LineBreak ∷ LiteralText (codes "b{c" ++ (10 ∷ []) ++ codes "d}") ∷ [])
