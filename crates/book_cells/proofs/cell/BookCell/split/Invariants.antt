use Rattle.book_cells.proofs.cell.BookCell.split.Given as goal

abbrev pub ghosts-split_as : goal.ghosts-split_as
ghosts-split_as g a = record { number = a.source }
