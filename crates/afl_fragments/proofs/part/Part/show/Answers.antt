use Rattle.std.proofs.Common.{ℕ, ◌<◌, All, subst}
use Rattle.afl_fragments.proofs.part.Part.show.Goals as goal

pub returns : goal.returns
returns c = record {
  fragment = c.spell-len.ensures.fragment;
  fits = c.spell-len.ensures.fits;
  most = c.spell-len.ensures.most;
  bytes = subst (All (λ (b : ℕ). b < 256)) c.spell-len.ensures.text c.show_bytes.ensures;
}
