-- What a style is made of at first, and what its builders refuse.
use Rattle.std.proofs.Common.{map, ◌≡◌, ◌≢◌, ◌⊎◌, inl, inr, ℕ, ◌≤◌, ◌<◌, List, refl, ◌∙◌, sym, ap, length, arith}
use Rattle.std.specs.Str.{chars}
use Rattle.indicatif_text.specs.Columns.{visible}
use Rattle.unicode_width.proofs.Computing.{unicode_width}
use Rattle.indicatif_text.specs.declared.refusal.Refusal.{Refusal}
use Rattle.indicatif_text.specs.declared.refusal.Refusal.TheVariants as refusal
use Rattle.indicatif_text.specs.declared.template.TemplateError.{TemplateError}
use Rattle.indicatif_text.specs.declared.template.TemplateError.TheVariants as error
use Rattle.indicatif_text.specs.Template.{refusal_of}
use Rattle.indicatif_text.specs.Template.{IsRefused}
use Rattle.indicatif_bar.specs.Layout.{text_columns, cluster}
use Rattle.indicatif_bar.specs.Builders.{characters_of, first_clusters}
use Rattle.indicatif_bar.specs.declared.style.builders.TheConstants.{CLUSTERS, TICKS, TICK_STRINGS}

-- a template's error that is not of memory is a fault of the text
pub refused_by : (text : List ℕ) (e : TemplateError) (r : Refusal) → r ≡ refusal_of e → (e ≢ error.Memory → IsRefused text e)
    → (r ≡ refusal.Memory) ⊎ ((x : TemplateError) × IsRefused text x × (r ≡ refusal_of x))
refused_by text (error.Unexpected next state) r is why = inr (error.Unexpected next state, why (λ q. cc q), is)
refused_by text error.WidthTooLarge r is why = inr (error.WidthTooLarge, why (λ q. cc q), is)
refused_by text error.Memory r is why = inl is

-- ---- at first

pub clusters_are : map (λ text. text.now) CLUSTERS ≡ first_clusters
unfolding lib.Utf8.encode
clusters_are = refl

pub one_column : text_columns (cluster first_clusters 0) ≡ 1
unfolding unicode_width visible chars
one_column = refl

-- the texts of the spinner are the characters of the one text
pub ticks_are : map (λ text. text.now) TICK_STRINGS ≡ characters_of TICKS.now
unfolding chars lib.Utf8.encode
ticks_are = refl

thirty : length (map (λ text. text.now) TICK_STRINGS) ≡ 30
thirty = refl

pub many_ticks : 2 ≤ length (map (λ text. text.now) TICK_STRINGS)
many_ticks = omega (arith, thirty)

pub many_clusters : 2 ≤ length (map (λ text. text.now) CLUSTERS)
many_clusters = omega (arith, ap length clusters_are)

pub first_columns : 1 ≡ text_columns (cluster (map (λ text. text.now) CLUSTERS) 0)
first_columns = sym (ap (λ ts. text_columns (cluster ts 0)) clusters_are ∙ one_column)

pub wide_cluster : 0 < text_columns (cluster (map (λ text. text.now) CLUSTERS) 0)
wide_cluster = omega (arith, first_columns)
