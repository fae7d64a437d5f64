-- The layout of the machine that a host lends: 1,576 bytes, in eights.
use mathlib.Core.Path.{◌≡◌, refl}
use prog.Memory.{size, align}
use Rattle.machine.proofs.Machine.TheLaws as machine

pub machine_size : size machine.mir ≡ 1576
machine_size = refl

pub machine_align : align machine.mir ≡ 8
machine_align = refl
