-- What was told of the lines is what is listed and noted of them.
use Rattle.std.proofs.Common.{ap, ◌∙◌}
use Rattle.reading_list.specs.Run.{status_of}
use Rattle.reading_list.proofs.Runs.{told_lines}
use Rattle.reading_list.proofs.running.list_lines.Goals as goal

pub returns-clause-run : goal.returns-clause-run
returns-clause-run g c =
    let status = c.of_lines.ensures ∙ ap (status_of c.list_pages-end.result) c.is_faultless.ensures in
    record {
      end = c.list_pages-end.result;
      faultless = c.is_faultless.result;
      status = c.of_lines.ensures;
      told = λ tells.
          told_lines _ c.list_pages-end.result c.new-lister.result c.list_pages-end.new.lister _ c.new-lister.ensures
          (c.list_pages-end.ensures.ended tells)
          c.list_pages-end.ensures.later_notes c.note_end.ensures.later c.note_end.ensures.noted status;
      read = c.list_pages-end.ensures.read;
      write = c.list_pages-end.ensures.write;
      bytes = c.list_pages-end.ensures.bytes;
    }
