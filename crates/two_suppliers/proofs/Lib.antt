pub mod AlikePiles
