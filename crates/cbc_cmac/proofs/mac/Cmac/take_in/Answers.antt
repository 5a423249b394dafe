use Rattle.std.proofs.Common.{◌≡◌, ◌+◌, ◌-◌, ◌++◌, ℕ, List, length, take, refl, sym, ap, ◌∙◌, subst, arith}
use Rattle.std.proofs.lemmas.List.{length-take-le, take_all}
use Rattle.std.proofs.lemmas.Slice.{take-put_mid}
use Rattle.aes_block.specs.Block.{add, encrypt}
use Rattle.cbc_cmac.specs.Fed.{Fed, StandsFor}
use Rattle.cbc_cmac.proofs.Taking.{same_fed, taken_with_room, taken_after_whole}
use Rattle.cbc_cmac.proofs.mac.Cmac.take_in.Goals as goal
use Rattle.cbc_cmac.proofs.mac.Cmac.take_in.Goals.{then-self-eq16, else-self-eq16}

pub returns : goal.returns
returns c key message h =
    let bytes : List ℕ = c.args.bytes.now in
    let written : List ℕ = c.copy_from_slice.new.self in
    let same : written ≡ bytes = c.copy_from_slice.ensures.after in
    let long : length written ≡ length bytes = ap length same in
    let keys : List ℕ = c.self.inside.keys.now in
    let chain : List ℕ = c.self.inside.chain in
    let buffer : List ℕ = c.self.inside.buffer in
    let used : ℕ = c.self.inside.used in
    let whole : length buffer ≡ 16 = c.self.told.2 in
    let count : length (take used buffer) ≡ used = length-take-le used buffer (omega arith) in
    let fits : length c.args.self.now.last ≡ used = sym (ap (λ fed. length fed.last) c.self.view_is) ∙ count in
    let old : StandsFor (record { key = keys; chained = chain; last = take used buffer }) key message =
    let P : Fed → Type 0 = λ fed. StandsFor fed key message in subst P (sym c.self.view_is) h in
    elim c.if-self-eq16.branch [
      | then-self-eq16 w ↦
          let all : take used buffer ≡ buffer = take_all used buffer (omega (arith, w.if-self-eq16.true)) in
          let chained : encrypt keys (add chain (take used buffer)) ≡ w.encrypt.new.block =
          sym (w.encrypt.ensures ∙ ap (encrypt keys) (w.add_block.ensures ∙ ap (add chain) (sym all))) in
          let last = sym (take-put_mid 0 (0 + length bytes - 0) buffer written (0 + length bytes) (omega arith) (omega arith) ∙ same) in
          rw w.self-inside-is
          (same_fed key (message ++ bytes) refl chained last
          (taken_after_whole _ key message bytes old (count ∙ w.if-self-eq16.true) c.requires.some (omega (arith, c.requires.fits))))
      | else-self-eq16 w ↦
          let last = sym (take-put_mid used (used + length bytes - used) buffer written (used + length bytes) (omega arith) (omega arith)
          ∙ ap (λ x. take used buffer ++ x) same) in
          rw w.self-inside-is
          (same_fed key (message ++ bytes) refl refl last
          (taken_with_room _ key message bytes old (omega (arith, c.requires.fits, c.self.invariant.within))))
    ]
