use Rattle.std.proofs.Common.{◌≡◌, ◌≤◌, [], drop, length, ap, sym, ◌∙◌, arith}
use Rattle.dp_conf.specs.Lines.{parts_of, without_mark}
use Rattle.dp_files.specs.Comments.{lines_after}
use Rattle.dp_files.proofs.CommentsLemmas.{with_lines, lines_after-text}
use Rattle.dp_files.proofs.comments.file_lines.Goals as goal

pub loop-next-init : goal.loop-next-init
loop-next-init c =
    let same = c.bytes.ensures in
    let length_same = ap length same in
    let least = c.mark_length.ensures.within in
    let within : c.mark_length.result ≤ length c.args.text.now = omega (arith, least, length_same) in
    let mark : drop c.mark_length.result c.args.text.now ≡ without_mark c.args.text.now =
    ap (drop c.mark_length.result) (sym same) ∙ sym c.mark_length.ensures.mark ∙ ap without_mark same in
    record {
      counted = omega (arith, within);
      within = within;
      whole =
          ap (λ front. with_lines front (lines_after 0 c.new-open.result (parts_of (drop c.mark_length.result c.args.text.now)))) c.new-texts.ensures.items
          ∙ ap (λ unclosed. with_lines [] (lines_after 0 unclosed (parts_of (drop c.mark_length.result c.args.text.now)))) c.new-open.ensures
          ∙ ap (λ text. with_lines [] (lines_after 0 [] (parts_of text))) mark
          ∙ lines_after-text c.args.text.now;
    }
