use Rattle.indicatif_term.proofs.RecutLemmas.{recut_alike, recut_by_glyphs, blank_glyphs}
use Rattle.indicatif_term.proofs.ResizeLemmas.{same_size, rows_resized, above_resized, still_failed, forgotten_stay}
use Rattle.indicatif_term.proofs.laws.how_lists_resize.Goals as goal

pub returns : goal.returns
returns c = record {
  same = same_size;
  rows = rows_resized;
  above = above_resized;
  failed = still_failed;
  forgotten = forgotten_stay;
  alike = recut_alike;
  glyphs = recut_by_glyphs;
  blank = blank_glyphs;
}
